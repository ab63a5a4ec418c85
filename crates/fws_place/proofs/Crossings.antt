-- Packets that have a source written elsewhere than on the way from the inside to the outside.
use Rattle.std.proofs.Common.{◌≡◌, ℕ, zero, suc, ◌+◌, ◌^◌, ◌≤◌, Bool, true, false, ◌&&◌, not, Option, Some, None, List, refl, sym, ◌∙◌, ap, arith, length, inl, inr, All}
use Rattle.std.proofs.lemmas.Bool.{and_from, and_parts, cases_Bool, false≢true, lt-ltb, not-true, not_from_false, ne_eqb}
use Rattle.std.specs.Prelude.{nat_eq, nat_lt, slice_index, if◌then◌else◌}
use Rattle.fws_iv.specs.declared.iv.Iv.{Iv}
use Rattle.fws_iv.specs.Ivs.{has}
use Rattle.fws_box.specs.Sides.{IsWithin}
use Rattle.fws_net.specs.declared.exit.Exit.TheVariants.{Deliver, Out, Lost}
use Rattle.fws_net.specs.declared.outcome.Outcome.{Outcome}
use Rattle.fws_net.specs.declared.outcome.Outcome.TheVariants.{Drop, Accept}
use Rattle.fws_net.specs.declared.outcome.Rewrite.{Rewrite}
use Rattle.fws_net.specs.declared.packet.Packet.{Packet}
use Rattle.fws_net.specs.declared.site.Site.{Site}
use Rattle.fws_net.specs.Fates.{written_addr}
use Rattle.fws_net.specs.Points.{tops_of}
use Rattle.fws_net.specs.Routes.{exit_at, is_local, route_of}
use Rattle.fws_tree.specs.declared.row.Row.{Row}
use Rattle.fws_tree.specs.declared.tables.Tables.{Tables}
use Rattle.fws_tree.specs.Plain.{Plain, value}
use Rattle.fws_place.specs.declared.breach.Pair.{Pair}
use Rattle.fws_place.specs.declared.clause.Clause.TheVariants.{WritesInsideOut}
use Rattle.fws_place.specs.Asked.{IsSoughtPacket}
use Rattle.fws_place.specs.Clauses.{IsAcceptedWith}
use Rattle.fws_place.specs.Crossing.{is_from_inside, is_sent_outside, IsWrittenElsewhere, IsWrittenWithin}
use Rattle.fws_place.specs.Delivered.{NoneDelivered, with_source, AreSources}
use Rattle.fws_place.specs.Fits.{Meets}
use Rattle.fws_place.specs.Found.{IsSought}
use Rattle.fws_place.specs.Meaning.{new_of, point_of}
use Rattle.fws_place.specs.Rewritings.{goes_outside, is_accepted_with, is_inside, is_outside, leaves_outside, new_exit, side_of, writes_source}
use Rattle.fws_place.specs.Seen.{Tells}
use Rattle.fws_place.proofs.DeliveredRows.{AreItsRows, IsFound, none_such, passing}
use Rattle.fws_place.proofs.Dropping.{among_told}

-- Exits

-- where what arrives for an address leaves
pub outside_is : (site : Site) (entry a : ℕ) → nat_eq entry 0 ≡ false → leaves_outside site (exit_at site entry a) ≡ is_sent_outside site a
outside_is site entry a arrives = by (nat_eq entry 0) (is_local site a) site.forwarding arrives
  where
    by : (h l f : Bool) → h ≡ false → leaves_outside site (if h then (if l then Out 1 else Out (route_of site a)) else if l then Deliver else if f then Out (route_of site a) else Lost)
        ≡ (f && (not l && is_outside (side_of site (route_of site a))))
    by true l f e = absurd (false≢true (sym e))
    by false true true e = refl
    by false true false e = refl
    by false false true e = refl
    by false false false e = refl

-- what comes from the inside arrives
inside_arrives : (site : Site) (entry : ℕ) → is_inside (side_of site entry) ≡ true → 1 ≤ entry
inside_arrives site zero e = absurd (false≢true e)
inside_arrives site (suc n) e = omega arith

-- From elsewhere

-- a tree of the packets over which a source is written, that is false at those from the inside
pub elsewhere_told : (site : Site) (tables : Tables) (t u : Plain Bool) → Tells site (λ p r. IsAcceptedWith tables writes_source p) t
    → ((q : List ℕ) → IsWithin (tops_of site) q → value u q ≡ (if is_inside (side_of site (slice_index q 0)) then Some false else value t q))
    → Tells site (λ p r. IsWrittenElsewhere site tables p) u
elsewhere_told site tables t u told at =
    among_told site (λ p r. IsAcceptedWith tables writes_source p) (λ p r. not (is_from_inside site p)) t u told
    (λ p r w. at (point_of p r) w ∙ turned (is_from_inside site p) (value t (point_of p r)))
  where
    turned : (b : Bool) (v : Option Bool) → (if b then Some false else v) ≡ (if not b then v else Some false)
    turned true v = refl
    turned false v = refl

-- From the inside

-- the outcomes that write a source, within sides
pub sources_within : (site : Site) (tables : Tables) (t u : Plain Outcome)
    → ((q : List ℕ) → IsWithin (tops_of site) q → (o : Outcome) × (value tables.fresh.1 q ≡ Some o) × (value t q ≡ Some (with_source o)))
    → ((q : List ℕ) → IsWithin (tops_of site) q → value u q ≡ (if is_inside (side_of site (slice_index q 0)) then value t q else Some Drop))
    → AreSources site tables (λ entry. is_inside (side_of site entry)) u
sources_within site tables t u at within q w =
    let here = at q w in
    let b : Bool = is_inside (side_of site (slice_index q 0)) in
    (here.0, here.1, within q w ∙ ap (λ v. if b then v else Some Drop) here.2 ∙ outside b (with_source here.0))
  where
    outside : (b : Bool) (o : Outcome) → (if b then Some o else Some Drop) ≡ Some (if b then o else Drop)
    outside true o = refl
    outside false o = refl

-- a packet that was found among them doesn't leave to the outside
pub found_within : (site : Site) (tables : Tables) (rest : List Iv) (p : Packet) → ((a : ℕ) → has rest a ≡ (not (is_sent_outside site a) && nat_lt a (2 ^ 32)))
    → IsFound site tables (λ entry. is_inside (side_of site entry)) rest p → IsSoughtPacket site (IsWrittenWithin site tables) (Some (record { packet = p; rec = None }, None))
found_within site tables rest p members found =
    let w : Rewrite = found.rewriting in
    let a : ℕ = written_addr w.dst p.dst in
    let parts = and_parts (not (is_sent_outside site a)) (nat_lt a (2 ^ 32)) (sym (members a) ∙ found.here) in
    let arrives : nat_eq p.entry 0 ≡ false = ne_eqb p.entry 0 (λ e. (let some : 1 ≤ p.entry = found.arrives in omega arith)) in
    let test : Rewrite → Bool = λ v. writes_source v && not (leaves_outside site (new_exit site p v)) in
    record {
      of_site = found.of_site;
      new = refl;
      alone = refl;
      such = (
        found.kept,
        ap (is_accepted_with test) found.accepted
            ∙ and_from (writes_source w) (not (leaves_outside site (new_exit site p w))) found.writes (ap not (outside_is site p.entry a arrives) ∙ parts.0),
      );
    }

-- where none was found there is none
pub none_within : (site : Site) (tables : Tables) (t : Plain Outcome) (rows : List (Row Outcome)) (rest : List Iv)
    → ((a : ℕ) → has rest a ≡ (not (is_sent_outside site a) && nat_lt a (2 ^ 32)))
    → AreSources site tables (λ entry. is_inside (side_of site entry)) t → AreItsRows site t rows → All (NoneDelivered rest (length site.faces + 1)) rows
    → IsSoughtPacket site (IsWrittenWithin site tables) None
none_within site tables t rows rest members sources its none first second named =
    let p : Packet = first.packet in
    let such = named.such in
    let accepted = passing (new_of tables p) (λ v. writes_source v && not (leaves_outside site (new_exit site p v))) such.1 in
    let v : Rewrite = accepted.0 in
    let a : ℕ = written_addr v.dst p.dst in
    let both = and_parts (writes_source v) (not (leaves_outside site (new_exit site p v))) accepted.2 in
    let some : 1 ≤ p.entry = inside_arrives site p.entry such.0 in
    let arrives : nat_eq p.entry 0 ≡ false = ne_eqb p.entry 0 (λ e. omega arith) in
    let here = none_such site tables (λ entry. is_inside (side_of site entry)) t rows rest sources its none p v named.of_site accepted.1 both.0 such.0 some in
    here.1 (members a ∙ and_from (not (is_sent_outside site a)) (nat_lt a (2 ^ 32)) (sym (ap not (outside_is site p.entry a arrives)) ∙ both.1) (lt-ltb a (2 ^ 32) here.0))

-- Both

-- a packet of either kind breaks the clause
crosses_not : (i l s : Bool) → (s && not l) ≡ true → (s && not (i && l)) ≡ true
crosses_not i l true e = ap not (ap (λ b. i && b) (not-true l e)) ∙ off i
  where
    off : (b : Bool) → not (b && false) ≡ true
    off true = refl
    off false = refl
crosses_not i l false e = e

from_elsewhere : (i l s : Bool) → not i ≡ true → s ≡ true → (s && not (i && l)) ≡ true
from_elsewhere true l s e f = absurd (false≢true e)
from_elsewhere false l true e f = refl
from_elsewhere false l false e f = f

accepted_also : (o : Outcome) (test other : Rewrite → Bool) → ((w : Rewrite) → test w ≡ true → other w ≡ true) → is_accepted_with test o ≡ true → is_accepted_with other o ≡ true
accepted_also Drop test other more e = absurd (false≢true e)
accepted_also (Accept w) test other more e = more w e

pub elsewhere_breaks : (site : Site) (tables : Tables) (named : Pair × Option Pair) → IsSoughtPacket site (IsWrittenElsewhere site tables) (Some named) → IsSought site tables WritesInsideOut (Some named)
elsewhere_breaks site tables named h =
    let p : Packet = named.0.packet in
    record {
      of_site = h.of_site;
      new = h.new;
      alone = h.alone;
      such = accepted_also (new_of tables p) writes_source (λ w. writes_source w && not (goes_outside site p w))
          (λ w e. from_elsewhere (is_from_inside site p) (leaves_outside site (new_exit site p w)) (writes_source w) h.such.0 e) h.such.1;
    }

within_breaks : (site : Site) (tables : Tables) (named : Pair × Option Pair) → IsSoughtPacket site (IsWrittenWithin site tables) (Some named) → IsSought site tables WritesInsideOut (Some named)
within_breaks site tables named h =
    let p : Packet = named.0.packet in
    record {
      of_site = h.of_site;
      new = h.new;
      alone = h.alone;
      such = accepted_also (new_of tables p) (λ w. writes_source w && not (leaves_outside site (new_exit site p w))) (λ w. writes_source w && not (goes_outside site p w))
          (λ w e. crosses_not (is_from_inside site p) (leaves_outside site (new_exit site p w)) (writes_source w) e) h.such.1;
    }

-- and there are no others
written_within : (i l s : Bool) → i ≡ true → (s && not (i && l)) ≡ true → (s && not l) ≡ true
written_within true l s e f = f
written_within false l s e f = absurd (false≢true e)

neither : (site : Site) (tables : Tables) → IsSoughtPacket site (IsWrittenElsewhere site tables) None → IsSoughtPacket site (IsWrittenWithin site tables) None
    → Meets site tables WritesInsideOut
neither site tables elsewhere within first second named =
    let p : Packet = first.packet in
    elim (cases_Bool (is_from_inside site p)) [
      | inl inside ↦ within first second (record {
        of_site = named.of_site;
        new = named.new;
        alone = named.alone;
        such = (
          inside,
          accepted_also (new_of tables p) (λ w. writes_source w && not (goes_outside site p w)) (λ w. writes_source w && not (leaves_outside site (new_exit site p w)))
              (λ w e. written_within (is_from_inside site p) (leaves_outside site (new_exit site p w)) (writes_source w) inside e) named.such,
        );
      })
      | inr outside ↦ elsewhere first second (record {
        of_site = named.of_site;
        new = named.new;
        alone = named.alone;
        such = (
          not_from_false (is_from_inside site p) outside,
          accepted_also (new_of tables p) (λ w. writes_source w && not (goes_outside site p w)) writes_source
              (λ w e. (and_parts (writes_source w) (not (goes_outside site p w)) e).0) named.such,
        );
      })
    ]

-- what is found last, where nothing was found before, is what was looked for
pub found_last : (site : Site) (tables : Tables) (before found : Option (Pair × Option Pair)) → ((x : Pair × Option Pair) → before ≡ Some x → ⊥)
    → IsSoughtPacket site (IsWrittenElsewhere site tables) before → IsSoughtPacket site (IsWrittenWithin site tables) found → IsSought site tables WritesInsideOut found
found_last site tables (Some x) found n first second = absurd (n x refl)
found_last site tables None (Some named) n first second = within_breaks site tables named second
found_last site tables None None n first second = neither site tables first second
