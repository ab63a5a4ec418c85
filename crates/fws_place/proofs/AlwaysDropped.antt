-- Trees that tell which dropped pairs have packets that aren't always dropped.
use Rattle.std.proofs.Common.{◌≡◌, ℕ, Bool, true, false, Some, List, inl, inr, ◌∙◌, ap}
use Rattle.std.proofs.lemmas.Bool.{both_ways, false_from_ne_true}
use Rattle.std.specs.Prelude.{◌↔◌, if◌then◌else◌}
use Rattle.fws_box.specs.Sides.{IsWithin}
use Rattle.fws_net.specs.declared.connection.Rec.{Rec}
use Rattle.fws_net.specs.declared.packet.Packet.{Packet}
use Rattle.fws_net.specs.declared.site.Site.{Site}
use Rattle.fws_net.specs.Points.{tops_of}
use Rattle.fws_tree.specs.declared.tables.Tables.{Tables}
use Rattle.fws_tree.specs.Plain.{Plain, value}
use Rattle.fws_tree.specs.Regular.{AreRegular}
use Rattle.fws_place.specs.AheadOfLookup.{IsDroppedOfPacket}
use Rattle.fws_place.specs.Clauses.{BreaksAlways}
use Rattle.fws_place.specs.Lost.{is_lost_at}
use Rattle.fws_place.specs.Meaning.{est_of, new_of, point_of}
use Rattle.fws_place.specs.Seen.{Tells}
use Rattle.fws_place.proofs.CanDrop.{packet_kept, stable}
use Rattle.fws_place.proofs.NoneDropped.{inside, lostless, unlost}
use Rattle.fws_place.proofs.Viewing.{is_lost, lost_is, not_accepted}

-- where a pair breaks the clause, its packet is accepted in some connection or when it is new
always_shown : (site : Site) (tables : Tables) (p : Packet) (r : Rec) (x : Bool) → ((x ≡ true) ↔ IsDroppedOfPacket site tables p r) → BreaksAlways site tables p r
    → IsDroppedOfPacket site tables p r
always_shown site tables p r x told breaks = stable (IsDroppedOfPacket site tables p r) x told (λ none. breaks.sometimes (
  (λ s w lost. not_accepted (est_of tables p s) (λ a. none (breaks.dropped.dropped, inl (record { ends = s; of_site = w; accepted = a })))),
  not_accepted (new_of tables p) (λ a. none (breaks.dropped.dropped, inr a)),
))

-- a tree that tells which pairs are dropped though their packets are accepted, and is false where pairs are lost
pub always_told : (site : Site) (tables : Tables) → AreRegular site tables → (d t : Plain Bool) → Tells site (IsDroppedOfPacket site tables) d
    → ((q : List ℕ) → IsWithin (tops_of site) q → value t q ≡ (if is_lost_at site q then Some false else value d q))
    → Tells site (BreaksAlways site tables) t
always_told site tables regular d t told without = record {
  tells = λ p r w.
      let here = told.tells p r w in
      let x : Bool = here.0 in
      let lost : Bool = is_lost_at site (point_of p r) in (
        (if lost then false else x),
        without (point_of p r) w ∙ ap (λ v. if lost then Some false else v) here.1 ∙ inside lost x,
        (
          (λ e. let parts = unlost lost x e in
              let dropped = here.2.0 parts.1 in
              record {
                dropped = record { of_site = w; found = λ is. both_ways lost parts.0 (is_lost site p r is); dropped = dropped.0 };
                sometimes = λ all. packet_kept site tables regular p dropped.1 all.0 all.1;
              }),
          λ breaks. lostless lost x (false_from_ne_true lost (λ e. breaks.dropped.found (lost_is site p r e)))
              (here.2.1 (always_shown site tables p r x here.2 breaks)),
        ),
      );
}
