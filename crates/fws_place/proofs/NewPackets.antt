-- Trees that tell of new packets.
use Rattle.std.proofs.Common.{◌≡◌, ℕ, Bool, true, false, Option, Some, None, List, refl, sym, ◌∙◌, ap, subst, arith, MatchOption}
use Rattle.std.proofs.lemmas.Bool.{false≢true}
use Rattle.std.specs.Prelude.{◌↔◌, nat_eq, slice_index, unwrap_or, if◌then◌else◌}
use Rattle.fws_box.specs.Sides.{IsWithin}
use Rattle.fws_net.specs.declared.connection.Rec.{Rec}
use Rattle.fws_net.specs.declared.outcome.Outcome.{Outcome}
use Rattle.fws_net.specs.declared.outcome.Outcome.TheVariants.{Drop}
use Rattle.fws_net.specs.declared.outcome.Rewrite.{Rewrite}
use Rattle.fws_net.specs.declared.packet.Packet.{Packet}
use Rattle.fws_net.specs.declared.site.Site.{Site}
use Rattle.fws_net.specs.Points.{tops_of, packet_of}
use Rattle.fws_tree.specs.declared.tables.Tables.{Tables}
use Rattle.fws_tree.specs.Plain.{Plain, value}
use Rattle.fws_tree.specs.Regular.{AreRegular}
use Rattle.fws_place.specs.declared.breach.Pair.{Pair}
use Rattle.fws_place.specs.Asked.{IsNamedPacket, IsSoughtPacket}
use Rattle.fws_place.specs.Clauses.{IsAcceptedWith}
use Rattle.fws_place.specs.Found.{IsTrueAtNoPair}
use Rattle.fws_place.specs.Meaning.{IsPacketOf, IsPairOf, new_of, no_ends, point_of, rec_of}
use Rattle.fws_place.specs.Pairs.{is_host}
use Rattle.fws_place.specs.Rewritings.{is_accepted_with}
use Rattle.fws_place.specs.Seen.{Tells}
use Rattle.fws_place.proofs.NewRows.{other_ends}
use Rattle.fws_place.proofs.PairPoints.{point_back}

-- Packets

-- the packet of a pair is one of the site
pub packet_within : (site : Site) (p : Packet) (r : Rec) → IsPairOf site p r → IsPacketOf site p
packet_within site p r w = (
  w.0,
  (
    w.1.0,
    (
      w.1.1.0,
      (
        w.1.1.1.0,
        (
          w.1.1.1.1.0,
          (w.1.1.1.1.1.0, (w.1.1.1.1.1.1.0, (w.1.1.1.1.1.1.1.0, (omega arith, (omega arith, (omega arith, (omega arith, tt))))))),
        ),
      ),
    ),
  ),
)

-- what becomes of a new packet stands at its point, whatever ends stand behind it
pub new_anywhere : (site : Site) (tables : Tables) → AreRegular site tables → (p : Packet) (r : Rec) → IsPairOf site p r
    → value tables.fresh.1 (point_of p no_ends) ≡ value tables.fresh.1 (point_of p r)
new_anywhere site tables regular p r w =
    other_ends site tables regular (point_of p r) 0 0 0 0 w (omega arith, (omega arith, (omega arith, (omega arith, tt))))

-- what becomes of a new packet, by the value at its point
pub new_is : (site : Site) (tables : Tables) → AreRegular site tables → (p : Packet) (r : Rec) (o : Outcome) → IsPairOf site p r
    → value tables.fresh.1 (point_of p r) ≡ Some o → new_of tables p ≡ o
new_is site tables regular p r o w e = ap (λ v. unwrap_or v Drop) (new_anywhere site tables regular p r w ∙ e)

-- Telling

-- a tree made of a test of outcomes
pub new_told : (site : Site) (tables : Tables) → AreRegular site tables → (test : Rewrite → Bool) (t : Plain Bool)
    → ((q : List ℕ) → IsWithin (tops_of site) q → (o : Outcome) × (value tables.fresh.1 q ≡ Some o) × (value t q ≡ Some (is_accepted_with test o)))
    → Tells site (λ p r. IsAcceptedWith tables test p) t
new_told site tables regular test t at = record {
  tells = λ p r w.
      let here = at (point_of p r) w in
      let same : is_accepted_with test (new_of tables p) ≡ is_accepted_with test here.0 = ap (is_accepted_with test) (new_is site tables regular p r here.0 w here.1) in
      (is_accepted_with test here.0, here.2, ((λ e. same ∙ e), λ e. sym same ∙ e));
}

-- a tree that tells of packets, and is false at those that aren't the host's
pub host_told : (site : Site) (Such : Packet → Type 0) (t u : Plain Bool) → Tells site (λ p r. Such p) t
    → ((q : List ℕ) → IsWithin (tops_of site) q → value u q ≡ (if nat_eq (slice_index q 0) 0 then value t q else Some false))
    → Tells site (λ p r. (is_host p ≡ true) × Such p) u
host_told site Such t u told at = record {
  tells = λ p r w.
      let here = told.tells p r w in
      by (value u (point_of p r)) (value t (point_of p r)) (is_host p) here.0 (Such p) (at (point_of p r) w) here.1 here.2;
}
  where
    by : (v x : Option Bool) (host b : Bool) (S : Type 0) → v ≡ (if host then x else Some false) → x ≡ Some b → ((b ≡ true) ↔ S)
        → (c : Bool) × (v ≡ Some c) × ((c ≡ true) ↔ ((host ≡ true) × S))
    by v x true b S e f both = (b, e ∙ f, ((λ h. (refl, both.0 h)), λ s. both.1 s.1))
    by v x false b S e f both = (false, e, ((λ h. absurd (false≢true h)), λ s. absurd (false≢true s.0)))

-- Naming

-- the packet of a point at which the tree is true
pub packet_named : (site : Site) (tree : List ℕ × Plain Bool) (q : List ℕ) → IsWithin (tops_of site) q → value tree.1 q ≡ Some true
    → IsNamedPacket site tree.1 (record { packet = packet_of q; rec = None }, None)
packet_named site tree q w e =
    let back : point_of (packet_of q) (rec_of q) ≡ q = point_back site q w in
    let inside : IsPairOf site (packet_of q) (rec_of q) = subst (λ l. IsWithin (tops_of site) l) (sym back) w in
    record {
      of_site = packet_within site (packet_of q) (rec_of q) inside;
      new = refl;
      alone = refl;
      such = (rec_of q, inside, ap (λ l. value tree.1 l) back ∙ e);
    }

some_same : (a b : Bool) → Some a ≡ Some b → a ≡ b
some_same a b e = cc

-- what was found in a tree that tells of packets is what was sought
pub sought_packet : (site : Site) (Such : Packet → Type 0) (t : Plain Bool) → Tells site (λ p r. Such p) t → (found : Option (Pair × Option Pair))
    → MatchOption found (IsTrueAtNoPair site t) (IsNamedPacket site t) → IsSoughtPacket site Such found
sought_packet site Such t told None none = λ first second named.
    let here = told.tells first.packet no_ends named.of_site in
    none first.packet no_ends named.of_site (here.1 ∙ ap Some (here.2.1 named.such))
sought_packet site Such t told (Some pair) named =
    let such = named.such in
    let here = told.tells pair.0.packet such.0 such.1 in
    record {
      of_site = named.of_site;
      new = named.new;
      alone = named.alone;
      such = here.2.0 (some_same here.0 true (sym here.1 ∙ such.2));
    }
