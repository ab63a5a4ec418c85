-- Packets and pairs of the host that don't pass as they are.
use Rattle.std.proofs.Common.{◌≡◌, ◌≢◌, ℕ, Bool, true, false, ◌&&◌, not, is_some, Option, Some, None, List, inl, inr, refl, sym, ap, subst}
use Rattle.std.proofs.lemmas.Bool.{both_ways, false≢true, false_from_ne_true, not-true, not_from_false}
use Rattle.std.specs.Prelude.{◌↔◌, nat_eq, slice_index, if◌then◌else◌}
use Rattle.fws_box.specs.Sides.{IsWithin}
use Rattle.fws_net.specs.declared.connection.Rec.{Rec}
use Rattle.fws_net.specs.declared.outcome.End.{End}
use Rattle.fws_net.specs.declared.outcome.Outcome.{Outcome}
use Rattle.fws_net.specs.declared.outcome.Outcome.TheVariants.{Drop, Accept}
use Rattle.fws_net.specs.declared.packet.Packet.{Packet}
use Rattle.fws_net.specs.declared.site.Site.{Site}
use Rattle.fws_net.specs.Points.{tops_of}
use Rattle.fws_net.specs.Transits.{nothing_written}
use Rattle.fws_tree.specs.declared.tables.Tables.{Tables}
use Rattle.fws_tree.specs.Plain.{Plain, value}
use Rattle.fws_tree.specs.Regular.{AreRegular}
use Rattle.fws_place.specs.declared.breach.Pair.{Pair}
use Rattle.fws_place.specs.declared.clause.Clause.TheVariants.{PassesHost}
use Rattle.fws_place.specs.Asked.{IsSoughtPacket}
use Rattle.fws_place.specs.Clauses.{BreaksHost, BreaksHostEstablished}
use Rattle.fws_place.specs.Found.{IsSought}
use Rattle.fws_place.specs.Meaning.{new_of, point_of}
use Rattle.fws_place.specs.Pairs.{IsDropped, is_host}
use Rattle.fws_place.specs.Seen.{Tells}
use Rattle.fws_place.specs.Unchanged.{is_unchanged}
use Rattle.fws_place.proofs.Dropping.{among_told}
use Rattle.fws_place.proofs.NamedPairs.{IsSoughtPair, told_alike}
use Rattle.fws_place.proofs.NewPackets.{new_is}
use Rattle.fws_place.proofs.Viewing.{bare}

-- Outcomes

-- what is accepted with nothing written
pub unchanged_is : (o : Outcome) → is_unchanged o ≡ true → o ≡ Accept nothing_written
unchanged_is Drop e = absurd (false≢true e)
unchanged_is (Accept w) e = by w.src w.dst refl refl e
  where
    by : (s d : Option End) → w.src ≡ s → w.dst ≡ d → (not (is_some s) && not (is_some d)) ≡ true → Accept w ≡ Accept nothing_written
    by None None f g h = ap Accept (bare w f g)
    by None (Some x) f g h = absurd (false≢true h)
    by (Some x) d f g h = absurd (false≢true h)

changed_is : (o : Outcome) → (not (is_unchanged o) ≡ true) ↔ (o ≢ Accept nothing_written)
changed_is o = (
  (λ e same. both_ways (is_unchanged o) (not-true (is_unchanged o) e) (ap is_unchanged same)),
  λ n. not_from_false (is_unchanged o) (false_from_ne_true (is_unchanged o) (λ e. n (unchanged_is o e))),
)

-- New packets

-- a tree made of a test of outcomes tells of what it tests
pub outcome_told : (site : Site) (tables : Tables) → AreRegular site tables → (test : Outcome → Bool) (Such : Outcome → Type 0) → ((o : Outcome) → (test o ≡ true) ↔ Such o) → (t : Plain Bool)
    → ((q : List ℕ) → IsWithin (tops_of site) q → (o : Outcome) × (value tables.fresh.1 q ≡ Some o) × (value t q ≡ Some (test o)))
    → Tells site (λ p r. Such (new_of tables p)) t
outcome_told site tables regular test Such means t at = record {
  tells = λ p r w.
      let here = at (point_of p r) w in
      let same : new_of tables p ≡ here.0 = new_is site tables regular p r here.0 w here.1 in
      (test here.0, here.2, subst (λ o. (test here.0 ≡ true) ↔ Such o) (sym same) (means here.0));
}

-- a tree with whether outcomes change packets, that is false at those that aren't the host's
pub changed_told : (site : Site) (tables : Tables) → AreRegular site tables → (c t : Plain Bool)
    → ((q : List ℕ) → IsWithin (tops_of site) q → (o : Outcome) × (value tables.fresh.1 q ≡ Some o) × (value c q ≡ Some (not (is_unchanged o))))
    → ((q : List ℕ) → IsWithin (tops_of site) q → value t q ≡ (if nat_eq (slice_index q 0) 0 then value c q else Some false))
    → Tells site (λ p r. BreaksHost tables p) t
changed_told site tables regular c t at within =
    let Changed : Packet → Rec → Type 0 = λ p r. new_of tables p ≢ Accept nothing_written in
    let OfHost : Packet → Rec → Type 0 = λ p r. (is_host p ≡ true) × Changed p r in
    let Broken : Packet → Rec → Type 0 = λ p r. BreaksHost tables p in
    told_alike site OfHost Broken t (λ p r. ((λ h. record { host = h.0; changed = h.1 }), λ b. (b.host, b.changed)))
    (among_told site Changed (λ p r. is_host p) c t (outcome_told site tables regular (λ o. not (is_unchanged o)) (λ o. o ≢ Accept nothing_written) changed_is c at)
    (λ p r w. within (point_of p r) w))

-- Pairs

-- a tree of dropped pairs, that is false at those that aren't the host's
pub host_dropped_told : (site : Site) (tables : Tables) (d t : Plain Bool) → Tells site (IsDropped site tables) d
    → ((q : List ℕ) → IsWithin (tops_of site) q → value t q ≡ (if nat_eq (slice_index q 0) 0 then value d q else Some false))
    → Tells site (BreaksHostEstablished site tables) t
host_dropped_told site tables d t told within =
    let OfHost : Packet → Rec → Type 0 = λ p r. (is_host p ≡ true) × IsDropped site tables p r in
    told_alike site OfHost (BreaksHostEstablished site tables) t (λ p r. ((λ h. record { host = h.0; dropped = h.1 }), λ b. (b.host, b.dropped)))
    (among_told site (IsDropped site tables) (λ p r. is_host p) d t told (λ p r w. within (point_of p r) w))

-- Both

-- what is found among new packets is what was looked for
pub found_new : (site : Site) (tables : Tables) (found : Pair × Option Pair) → IsSoughtPacket site (BreaksHost tables) (Some found) → IsSought site tables PassesHost (Some found)
found_new site tables found h = inl h

-- and so is what is found among pairs, where no new packet was
pub found_pair : (site : Site) (tables : Tables) (new found : Option (Pair × Option Pair)) → ((x : Pair × Option Pair) → new ≡ Some x → ⊥)
    → IsSoughtPacket site (BreaksHost tables) new → IsSoughtPair site (BreaksHostEstablished site tables) found → IsSought site tables PassesHost found
found_pair site tables (Some x) found n first second = absurd (n x refl)
found_pair site tables None (Some pair) n first second = inr second
found_pair site tables None None n first second = λ one other broken. elim broken [ inl packet ↦ first one other packet | inr pair ↦ second one other pair ]
