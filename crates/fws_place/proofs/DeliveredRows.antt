-- Rows whose packets are delivered with a source written.
use Rattle.std.proofs.Common.{◌≡◌, ℕ, ◌+◌, ◌-◌, ◌^◌, ◌<◌, ◌≤◌, Bool, true, false, ◌&&◌, Some, None, List, refl, sym, ◌∙◌, ap, subst, arith, length, get_or, All, IsTrue, get_or-set_same, get_or-set_other}
use Rattle.std.proofs.lemmas.Bool.{and_parts, and_from, false≢true, ne_eqb, cond-true}
use Rattle.std.proofs.lemmas.Bool.Decides.{nat_tests}
use Rattle.std.proofs.lemmas.List.Elements.{All-contains}
use Rattle.std.specs.Prelude.{nat_eq, slice_index, slice_set, unwrap_or, if◌then◌else◌}
use Rattle.fws_iv.specs.declared.iv.Iv.{Iv}
use Rattle.fws_iv.specs.Ivs.{has}
use Rattle.fws_box.specs.Sides.{IsWithin, sides_have}
use Rattle.fws_net.specs.declared.exit.Exit.TheVariants.{Deliver, Out, Lost}
use Rattle.fws_net.specs.declared.outcome.Outcome.{Outcome}
use Rattle.fws_net.specs.declared.outcome.Outcome.TheVariants.{Drop, Accept}
use Rattle.fws_net.specs.declared.outcome.Rewrite.{Rewrite}
use Rattle.fws_net.specs.declared.packet.Packet.{Packet}
use Rattle.fws_net.specs.declared.site.Site.{Site}
use Rattle.fws_net.specs.Fates.{written_addr}
use Rattle.fws_net.specs.Points.{tops_of, packet_of}
use Rattle.fws_net.specs.Routes.{exit_at, is_local, IsSound, route_of}
use Rattle.fws_tree.specs.declared.row.Row.{Row}
use Rattle.fws_tree.specs.declared.tables.Tables.{Tables}
use Rattle.fws_tree.specs.Plain.{Plain, value, IsReduced}
use Rattle.fws_tree.specs.Regular.{AreRegular}
use Rattle.fws_tree.specs.Rows.{paths_of, row_hits}
use Rattle.fws_place.specs.declared.clause.Clause.TheVariants.{KeepsDeliveredSources}
use Rattle.fws_place.specs.Clauses.{Breaks}
use Rattle.fws_place.specs.Delivered.{IsDeliveredIn, NoneDelivered, with_source, AreSources}
use Rattle.fws_place.specs.Fits.{Meets}
use Rattle.fws_place.specs.Meaning.{IsPacketOf, IsPairOf, new_of, no_ends, point_of, rec_of, widest}
use Rattle.fws_place.specs.Rewritings.{is_accepted_with, is_delivered, new_exit, writes_source}
use Rattle.fws_place.specs.Sides.{AreSidesOf, leasts}
use Rattle.fws_place.proofs.Finding.{hit}
use Rattle.fws_place.proofs.NewPackets.{new_is, packet_within}
use Rattle.fws_place.proofs.NewRows.{set_within}
use Rattle.fws_place.proofs.OpenRows.{least_had, least_within, rows_have_sides}
use Rattle.fws_place.proofs.PairPoints.{point_back, roomy, within_length}
use Rattle.fws_place.proofs.ShownRedirects.{have_set, side_has, sides_length}

-- Outcomes

-- an outcome that is kept for its source
kept_source : (o : Outcome) (w : Rewrite) → with_source o ≡ Accept w → (o ≡ Accept w) × (writes_source w ≡ true)
kept_source Drop w e = absurd (cc)
kept_source (Accept v) w e = by (writes_source v) refl e
  where
    by : (b : Bool) → writes_source v ≡ b → (if b then Accept v else Drop) ≡ Accept w → (Accept v ≡ Accept w) × (writes_source w ≡ true)
    by true writes same = (same, (let e1 : v ≡ w = cc in ap writes_source (sym e1) ∙ writes))
    by false writes same = absurd (cc)

source_kept : (w : Rewrite) → writes_source w ≡ true → with_source (Accept w) ≡ Accept w
source_kept w writes = cond-true (writes_source w) (Accept w) Drop writes

-- what arrives at a local address is delivered
delivers : (site : Site) (entry dst : ℕ) → 1 ≤ entry → is_local site dst ≡ true → is_delivered (exit_at site entry dst) ≡ true
delivers site entry dst arrives here =
    by (nat_eq entry 0) (is_local site dst) (ne_eqb entry 0 (λ e. omega arith)) here
  where
    by : (h l : Bool) → h ≡ false → l ≡ true
        → is_delivered (if h then (if l then Out 1 else Out (route_of site dst)) else if l then Deliver else if site.forwarding then Out (route_of site dst) else Lost) ≡ true
    by true l e f = absurd (false≢true (sym e))
    by false true e f = refl
    by false false e f = absurd (false≢true f)

from_one : (n : ℕ) → nat_eq n 0 ≡ false → 1 ≤ n
from_one n e = grind (arith, nat_tests)

-- and nothing else is
is_arriving : (site : Site) (entry dst : ℕ) → is_delivered (exit_at site entry dst) ≡ true → (1 ≤ entry) × (is_local site dst ≡ true)
is_arriving site entry dst d = by (nat_eq entry 0) (is_local site dst) refl refl d
  where
    by : (h l : Bool) → nat_eq entry 0 ≡ h → is_local site dst ≡ l
        → is_delivered (if h then (if l then Out 1 else Out (route_of site dst)) else if l then Deliver else if site.forwarding then Out (route_of site dst) else Lost) ≡ true
        → (1 ≤ entry) × (is_local site dst ≡ true)
    by true true e f g = absurd (false≢true g)
    by true false e f g = absurd (false≢true g)
    by false true e f g = (from_one entry e, f)
    by false false e f g = absurd (no_other site.forwarding g)
      where
        no_other : (b : Bool) → is_delivered (if b then Out (route_of site dst) else Lost) ≡ true → ⊥
        no_other true k = false≢true k
        no_other false k = false≢true k

-- Trees

-- what is known of the tree's rows
pub record AreItsRows (site : Site) (t : Plain Outcome) (rows : List (Row Outcome)) : Type 0 where
  pub sides : All (λ row. AreSidesOf (tops_of site) row.sides) rows
  pub once : (q : List ℕ) → IsWithin (tops_of site) q → row_hits rows q ≡ 1
  pub right : (q : List ℕ) → IsWithin (tops_of site) q → All (λ row. IsTrue (sides_have row.sides q) → value t q ≡ Some row.leaf) rows

pub its_rows : (site : Site) (tree : List ℕ × Plain Outcome) (rows : List (Row Outcome)) → tree.0 ≡ tops_of site → IsReduced tree.0 tree.1 → rows ≡ paths_of tree.0 tree.1
    → ((q : List ℕ) → IsWithin tree.0 q → row_hits rows q ≡ 1) → ((q : List ℕ) → IsWithin tree.0 q → All (λ row. IsTrue (sides_have row.sides q) → value tree.1 q ≡ Some row.leaf) rows)
    → AreItsRows site tree.1 rows
its_rows site tree rows tops reduced e once right = record {
  sides = subst (λ ts. All (λ row. AreSidesOf ts row.sides) rows) tops (subst (λ l. All (λ row. AreSidesOf tree.0 row.sides) l) (sym e) (rows_have_sides tree.0 tree.1 reduced));
  once = λ q w. once q (subst (λ ts. IsWithin ts q) (sym tops) w);
  right = λ q w. right q (subst (λ ts. IsWithin ts q) (sym tops) w);
}

some_same : {X : Type 0} (x y : X) → Some x ≡ Some y → x ≡ y
some_same x y e = cc

-- what is accepted at an entry, if anything, is kept
kept_at : (b : Bool) (o : Outcome) (w : Rewrite) → (if b then with_source o else Drop) ≡ Accept w → (b ≡ true) × (with_source o ≡ Accept w)
kept_at true o w e = (refl, e)
kept_at false o w e = absurd (cc)

-- what the tree keeps at a point
at_point : (site : Site) (tables : Tables) (keeps : ℕ → Bool) (t : Plain Outcome) → AreRegular site tables → AreSources site tables keeps t → (q : List ℕ) (w : Rewrite)
    → IsWithin (tops_of site) q → point_of (packet_of q) (rec_of q) ≡ q → value t q ≡ Some (Accept w)
    → (new_of tables (packet_of q) ≡ Accept w) × (writes_source w ≡ true) × (keeps (slice_index q 0) ≡ true)
at_point site tables keeps t regular sources q w within back there =
    let o = sources q within in
    let at = kept_at (keeps (slice_index q 0)) o.0 w (some_same (if keeps (slice_index q 0) then with_source o.0 else Drop) (Accept w) (sym o.2 ∙ there)) in
    let kept = kept_source o.0 w at.1 in (
      new_is site tables regular (packet_of q) (rec_of q) o.0 (subst (λ l. IsWithin (tops_of site) l) (sym back) within) (ap (λ l. value tables.fresh.1 l) back ∙ o.1) ∙ kept.0,
      kept.1,
      at.0,
    )

pub twelve_of_paths : (tree : List ℕ × Plain Outcome) (rows : List (Row Outcome)) → length tree.0 ≡ 12 → IsReduced tree.0 tree.1 → rows ≡ paths_of tree.0 tree.1
    → All (λ row. length row.sides ≡ 12) rows
twelve_of_paths tree rows twelve reduced e =
    let sides : All (λ row. AreSidesOf tree.0 row.sides) rows = subst (λ l. All (λ row. AreSidesOf tree.0 row.sides) l) (sym e) (rows_have_sides tree.0 tree.1 reduced) in
    λ k d lt. sides_length tree.0 (get_or rows k d).sides (sides k d lt) ∙ twelve

pub twelve_sides : (site : Site) (t : Plain Outcome) (rows : List (Row Outcome)) → AreItsRows site t rows → All (λ row. length row.sides ≡ 12) rows
twelve_sides site t rows its = λ k d lt. sides_length (tops_of site) (get_or rows k d).sides (its.sides k d lt)

-- One row

-- a row that drops
pub none_dropped : (local : List Iv) (top : ℕ) (row : Row Outcome) → row.leaf ≡ Drop → NoneDelivered local top row
none_dropped local top row drops = record {
  none = λ entry dst le lt is. (let never : Drop ≡ Accept is.rewriting = sym drops ∙ is.accepted in cc);
  addresses = λ w accepted. (let never : Drop ≡ Accept w = sym drops ∙ accepted in absurd (cc));
}

-- Naming

-- the point lies within the tops and in its row
found_point : (site : Site) (t : Plain Outcome) (rows : List (Row Outcome)) (local : List Iv) (q : List ℕ) → AreItsRows site t rows → (found : IsDeliveredIn local (length site.faces + 1) rows q)
    → IsWithin (tops_of site) q × (sides_have found.row.sides q ≡ true) × (slice_index q 0 ≡ found.entry) × (slice_index q 2 ≡ found.dst)
found_point site t rows local q its found =
    let row : Row Outcome = found.row in
    let sides : AreSidesOf (tops_of site) row.sides = All-contains (λ r. AreSidesOf (tops_of site) r.sides) rows row its.sides found.there in
    let l : List ℕ = leasts row.sides in
    let m : List ℕ = slice_set l 0 found.entry in
    let w0 : IsWithin (tops_of site) l = least_within (tops_of site) row.sides sides in
    let w1 : IsWithin (tops_of site) m = set_within (tops_of site) l 0 found.entry w0 found.entry_low in
    let low : found.dst ≤ 2 ^ 32 - 1 = (let lt : found.dst < 2 ^ 32 = found.dst_low in omega arith) in
    let w2 : IsWithin (tops_of site) (slice_set m 2 found.dst) = set_within (tops_of site) m 2 found.dst w1 low in
    let h1 : sides_have row.sides m ≡ true = have_set row.sides l 0 found.entry (least_had (tops_of site) row.sides sides) found.delivered.entry_there in
    let h2 : sides_have row.sides (slice_set m 2 found.dst) ≡ true = have_set row.sides m 2 found.dst h1 found.delivered.dst_there in
    let n0 : length l ≡ 12 = within_length (tops_of site) l w0 in
    let n1 : length m ≡ 12 = within_length (tops_of site) m w1 in (
      subst (λ k. IsWithin (tops_of site) k) (sym found.point) w2,
      subst (λ k. sides_have row.sides k ≡ true) (sym found.point) h2,
      ap (λ k. slice_index k 0) found.point ∙ get_or-set_other m 2 0 found.dst 0 (λ e. omega arith) ∙ get_or-set_same l 0 found.entry 0 (omega arith),
      ap (λ k. slice_index k 2) found.point ∙ get_or-set_same m 2 found.dst 0 (omega arith),
    )

pub found_roomy : (site : Site) (t : Plain Outcome) (rows : List (Row Outcome)) (local : List Iv) (q : List ℕ) → IsSound site → AreItsRows site t rows
    → IsDeliveredIn local (length site.faces + 1) rows q → IsWithin widest q
found_roomy site t rows local q sound its found = roomy site sound q (found_point site t rows local q its found).0

-- a packet has a source written, comes by an entry that is kept, arrives and is sent to one of the addresses
pub record IsFound (site : Site) (tables : Tables) (keeps : ℕ → Bool) (local : List Iv) (p : Packet) : Type 0 where
  pub of_site : IsPacketOf site p
  pub rewriting : Rewrite
  pub accepted : new_of tables p ≡ Accept rewriting
  pub writes : writes_source rewriting ≡ true
  pub kept : keeps p.entry ≡ true
  pub arrives : 1 ≤ p.entry
  pub here : has local (written_addr rewriting.dst p.dst) ≡ true

-- such is the packet of the point
pub found_packet : (site : Site) (tables : Tables) (keeps : ℕ → Bool) (t : Plain Outcome) (rows : List (Row Outcome)) (local : List Iv) (q : List ℕ) → AreRegular site tables
    → AreSources site tables keeps t → AreItsRows site t rows → IsDeliveredIn local (length site.faces + 1) rows q → IsFound site tables keeps local (packet_of q)
found_packet site tables keeps t rows local q regular sources its found =
    let point = found_point site t rows local q its found in
    let row : Row Outcome = found.row in
    let back : point_of (packet_of q) (rec_of q) ≡ q = point_back site q point.0 in
    let inside : IsPairOf site (packet_of q) (rec_of q) = subst (λ l. IsWithin (tops_of site) l) (sym back) point.0 in
    let w : Rewrite = found.delivered.rewriting in
    let there : value t q ≡ Some (Accept w)
    = All-contains (λ r. IsTrue (sides_have r.sides q) → value t q ≡ Some r.leaf) rows row (its.right q point.0) found.there point.1 ∙ ap Some found.delivered.accepted in
    let kept = at_point site tables keeps t regular sources q w point.0 back there in
    record {
      of_site = packet_within site (packet_of q) (rec_of q) inside;
      rewriting = w;
      accepted = kept.0;
      writes = kept.1;
      kept = kept.2;
      arrives = subst (λ n. 1 ≤ n) (sym point.2) found.delivered.arrives;
      here = ap (λ a. has local (written_addr w.dst a)) point.3 ∙ found.delivered.here;
    }

-- it breaks the clause where the addresses are local
pub found_breaks : (site : Site) (tables : Tables) (local : List Iv) (p : Packet) → ((a : ℕ) → has local a ≡ is_local site a) → IsFound site tables (λ entry. true) local p
    → Breaks site tables KeepsDeliveredSources (record { packet = p; rec = None }) None
found_breaks site tables local p own found =
    let w : Rewrite = found.rewriting in
    let here : is_local site (written_addr w.dst p.dst) ≡ true = sym (own (written_addr w.dst p.dst)) ∙ found.here in
    let test : Rewrite → Bool = λ v. is_delivered (new_exit site p v) && writes_source v in
    record {
      of_site = found.of_site;
      new = refl;
      alone = refl;
      such = ap (is_accepted_with test) found.accepted
          ∙ and_from (is_delivered (new_exit site p w)) (writes_source w) (delivers site p.entry (written_addr w.dst p.dst) found.arrives here) found.writes;
    }

-- None

-- an accepted outcome whose rewriting passes
pub passing : (o : Outcome) (test : Rewrite → Bool) → is_accepted_with test o ≡ true → (w : Rewrite) × (o ≡ Accept w) × (test w ≡ true)
passing Drop test e = absurd (false≢true e)
passing (Accept w) test e = (w, refl, e)

-- where no row has packets that are sent to one of the addresses, no packet is such
pub none_such : (site : Site) (tables : Tables) (keeps : ℕ → Bool) (t : Plain Outcome) (rows : List (Row Outcome)) (local : List Iv) → AreSources site tables keeps t
    → AreItsRows site t rows → All (NoneDelivered local (length site.faces + 1)) rows → (p : Packet) (v : Rewrite) → IsPacketOf site p → new_of tables p ≡ Accept v
    → writes_source v ≡ true → keeps p.entry ≡ true → 1 ≤ p.entry → (written_addr v.dst p.dst < 2 ^ 32) × (has local (written_addr v.dst p.dst) ≡ true → ⊥)
none_such site tables keeps t rows local sources its none p v w accepted writes kept arrives =
    let q : List ℕ = point_of p no_ends in
    let o = sources q w in
    let same : o.0 ≡ Accept v = sym (ap (λ x. unwrap_or x Drop) o.1) ∙ accepted in
    let there : value t q ≡ Some (Accept v)
    = o.2 ∙ ap (λ x. Some (if keeps p.entry then with_source x else Drop)) same
    ∙ ap Some (cond-true (keeps p.entry) (with_source (Accept v)) Drop kept ∙ source_kept v writes) in
    let one : row_hits rows q ≡ 1 = its.once q w in
    let at = hit rows q (omega arith) in
    let row : Row Outcome = at.0 in
    let leaf : value t q ≡ Some row.leaf = All-contains (λ r. IsTrue (sides_have r.sides q) → value t q ≡ Some r.leaf) rows row (its.right q w) at.1 at.2 in
    let sides : AreSidesOf (tops_of site) row.sides = All-contains (λ r. AreSidesOf (tops_of site) r.sides) rows row its.sides at.1 in
    let many : length row.sides ≡ 12 = sides_length (tops_of site) row.sides sides in
    let low : p.dst < 2 ^ 32 = (let le : p.dst ≤ 2 ^ 32 - 1 = w.1.1.0 in omega arith) in
    let here : NoneDelivered local (length site.faces + 1) row = All-contains (NoneDelivered local (length site.faces + 1)) rows row none at.1 in
    let its_leaf : row.leaf ≡ Accept v = some_same row.leaf (Accept v) (sym leaf ∙ there) in (
      here.addresses v its_leaf p.dst low,
      λ is. here.none p.entry p.dst w.0 low (record {
        entry_there = side_has row.sides q 0 at.2 (omega arith);
        arrives = arrives;
        dst_there = side_has row.sides q 2 at.2 (omega arith);
        rewriting = v;
        accepted = its_leaf;
        here = is;
      }),
    )

-- where no row has packets that are delivered the clause is met
pub none_meet : (site : Site) (tables : Tables) (t : Plain Outcome) (rows : List (Row Outcome)) (local : List Iv) → AreSources site tables (λ entry. true) t
    → AreItsRows site t rows → ((a : ℕ) → has local a ≡ is_local site a) → All (NoneDelivered local (length site.faces + 1)) rows → Meets site tables KeepsDeliveredSources
none_meet site tables t rows local sources its own none first second named =
    let p : Packet = first.packet in
    let accepted = passing (new_of tables p) (λ v. is_delivered (new_exit site p v) && writes_source v) named.such in
    let v : Rewrite = accepted.0 in
    let both = and_parts (is_delivered (new_exit site p v)) (writes_source v) accepted.2 in
    let arriving = is_arriving site p.entry (written_addr v.dst p.dst) both.0 in
    (none_such site tables (λ entry. true) t rows local sources its none p v named.of_site accepted.1 both.1 refl arriving.0).1 (own (written_addr v.dst p.dst) ∙ arriving.1)
