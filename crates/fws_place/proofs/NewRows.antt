-- The rows of the table of new packets have packets.
use Rattle.std.proofs.Common.{◌≡◌, ℕ, zero, suc, ◌+◌, ◌-◌, ◌^◌, ◌<◌, ◌≤◌, None, List, [], ◌∷◌, ◌++◌, refl, sym, ◌∙◌, ap, subst, arith, length, get_or, take, drop, append_assoc, All, IsTrue}
use Rattle.std.proofs.lemmas.List.{map-append, take_more, take-append-drop}
use Rattle.std.proofs.lemmas.List.FromFn.{fill_by_all}
use Rattle.std.specs.Prelude.{slice_set}
use Rattle.fws_iv.specs.declared.iv.Iv.{Iv}
use Rattle.fws_box.specs.Sides.{IsWithin, sides_have, whole_sides}
use Rattle.fws_net.specs.declared.outcome.Outcome.{Outcome}
use Rattle.fws_net.specs.declared.site.Site.{Site}
use Rattle.fws_net.specs.Points.{tops_of, packet_of}
use Rattle.fws_net.specs.Routes.{IsSound}
use Rattle.fws_tree.specs.declared.row.Row.{Row}
use Rattle.fws_tree.specs.declared.tables.Tables.{Tables}
use Rattle.fws_tree.specs.Plain.{value, IsReduced}
use Rattle.fws_tree.specs.Regular.{AreRegular}
use Rattle.fws_tree.specs.Rows.{paths_of}
use Rattle.fws_place.specs.declared.clause.Clause.TheVariants.{FewOutcomes}
use Rattle.fws_place.specs.Clauses.{NamesPacket}
use Rattle.fws_place.specs.Counts.{IsFirstAbove, IsIn, IsInFirst, new_rows, ShowLeavesAbove}
use Rattle.fws_place.specs.Fits.{Meets}
use Rattle.fws_place.specs.Meaning.{IsPacketOf, no_ends, point_of, widest}
use Rattle.fws_place.specs.Sides.{AreSidesOf, leasts}
use Rattle.fws_place.proofs.Counting.{more_rows}
use Rattle.fws_place.proofs.OpenRows.{IsOpen, IsFreeOfLasts, least_had, least_within, rows_are_open, sides_both, whole_sides_of}
use Rattle.fws_place.proofs.PairPoints.{roomy, within_length}

-- The last four fields

-- the tops of a packet's fields, and those of ends
abbrev pub firsts : Site → List ℕ
firsts site = (length site.faces + 1) ∷ 255 ∷ (2 ^ 32 - 1) ∷ 65535 ∷ (2 ^ 32 - 1) ∷ 65535 ∷ 63 ∷ 255 ∷ []

abbrev pub lasts : List ℕ
lasts = (2 ^ 32 - 1) ∷ 65535 ∷ (2 ^ 32 - 1) ∷ 65535 ∷ []

pub set_within : (tops p : List ℕ) (f x : ℕ) → IsWithin tops p → x ≤ get_or tops f 0 → IsWithin tops (slice_set p f x)
set_within [] [] f x w le = tt
set_within [] (y ∷ p) f x w le = absurd w
set_within (top ∷ tops) [] f x w le = absurd w
set_within (top ∷ tops) (y ∷ p) zero x w le = (le, w.1)
set_within (top ∷ tops) (y ∷ p) (suc f) x w le = (w.0, set_within tops p f x w.1 le)

-- a point with other ends
abbrev pub with_ends : List ℕ → ℕ → ℕ → ℕ → ℕ → List ℕ
with_ends p a b c d = slice_set (slice_set (slice_set (slice_set p 8 a) 9 b) 10 c) 11 d

pub other_ends : (site : Site) (tables : Tables) → AreRegular site tables → (p : List ℕ) (a b c d : ℕ) → IsWithin (tops_of site) p → IsWithin lasts (a ∷ b ∷ c ∷ d ∷ [])
    → value tables.fresh.1 (with_ends p a b c d) ≡ value tables.fresh.1 p
other_ends site tables regular p a b c d w z =
    let p1 : List ℕ = slice_set p 8 a in
    let w1 : IsWithin (tops_of site) p1 = set_within (tops_of site) p 8 a w z.0 in
    let p2 : List ℕ = slice_set p1 9 b in
    let w2 : IsWithin (tops_of site) p2 = set_within (tops_of site) p1 9 b w1 z.1.0 in
    let p3 : List ℕ = slice_set p2 10 c in
    let w3 : IsWithin (tops_of site) p3 = set_within (tops_of site) p2 10 c w2 z.1.1.0 in
    regular.fresh_alone 11 p3 (omega arith) (omega arith) w3 d z.1.1.1.0
    ∙ regular.fresh_alone 10 p2 (omega arith) (omega arith) w2 c z.1.1.0
    ∙ regular.fresh_alone 9 p1 (omega arith) (omega arith) w1 b z.1.0
    ∙ regular.fresh_alone 8 p (omega arith) (omega arith) w a z.0

-- eight values and four
abbrev eight_of : List ℕ → List ℕ
eight_of l = get_or l 0 0 ∷ get_or l 1 0 ∷ get_or l 2 0 ∷ get_or l 3 0 ∷ get_or l 4 0 ∷ get_or l 5 0 ∷ get_or l 6 0 ∷ get_or l 7 0 ∷ []

abbrev four_of : List ℕ → List ℕ
four_of l = get_or l 0 0 ∷ get_or l 1 0 ∷ get_or l 2 0 ∷ get_or l 3 0 ∷ []

eight : (l : List ℕ) → length l ≡ 8 → l ≡ eight_of l
eight l n = fill_by_all (λ k. get_or l k 0) l 8 0 n (λ k lt. refl)

four : (l : List ℕ) → length l ≡ 4 → l ≡ four_of l
four l n = fill_by_all (λ k. get_or l k 0) l 4 0 n (λ k lt. refl)

within_both : (tops others p q : List ℕ) → IsWithin tops p → IsWithin others q → IsWithin (tops ++ others) (p ++ q)
within_both [] others [] q w v = v
within_both [] others (x ∷ p) q w v = absurd w
within_both (top ∷ tops) others [] q w v = absurd w
within_both (top ∷ tops) others (x ∷ p) q w v = (w.0, within_both tops others p q w.1 v)

-- no value of the table changes with the ends
free_of_ends : (site : Site) (tables : Tables) → AreRegular site tables → IsFreeOfLasts 0 (firsts site) lasts tables.fresh.1
free_of_ends site tables regular before after others w v z =
    let eb : before ≡ eight_of before = eight before (within_length (firsts site) before w) in
    let ea : after ≡ four_of after = four after (within_length lasts after v) in
    let eo : others ≡ four_of others = four others (within_length lasts others z) in
    let inside : IsWithin (tops_of site) (eight_of before ++ four_of after)
    = subst (λ l. IsWithin (tops_of site) (l ++ four_of after)) eb (subst (λ l. IsWithin (tops_of site) (before ++ l)) ea (within_both (firsts site) lasts before after w v)) in
    ap (λ l. value tables.fresh.1 (l ++ after)) eb ∙ ap (λ l. value tables.fresh.1 (eight_of before ++ l)) ea
    ∙ sym (other_ends site tables regular (eight_of before ++ four_of after) (get_or others 0 0) (get_or others 1 0) (get_or others 2 0) (get_or others 3 0) inside
    (subst (λ l. IsWithin lasts l) eo z))
    ∙ ap (λ l. value tables.fresh.1 (eight_of before ++ l)) (sym eo) ∙ ap (λ l. value tables.fresh.1 (l ++ others)) (sym eb)

-- Packets of rows

no_more : List ℕ
no_more = 0 ∷ 0 ∷ 0 ∷ 0 ∷ []

new_point : (l : List ℕ) → length l ≡ 8 → point_of (packet_of (l ++ no_more)) no_ends ≡ l ++ no_more
unfolding no_more
new_point l n = subst (λ k. point_of (packet_of (k ++ no_more)) no_ends ≡ k ++ no_more) (sym (eight l n)) refl

-- the sides of an open row
pub open_sides : (site : Site) (row : Row Outcome) → IsOpen (firsts site) lasts row → AreSidesOf (tops_of site) row.sides
open_sides site row is_open =
    subst (λ l. AreSidesOf (tops_of site) l) (sym is_open.2) (sides_both (firsts site) lasts is_open.0 (whole_sides lasts) is_open.1 (whole_sides_of lasts))

-- the least point of an open row is that of its packet
pub row_packet : (site : Site) (row : Row Outcome) → IsOpen (firsts site) lasts row
    → IsPacketOf site (packet_of (leasts row.sides)) × IsIn row (packet_of (leasts row.sides))
unfolding no_more
row_packet site row is_open =
    let sides : List (List Iv) = is_open.0 in
    let all : AreSidesOf (tops_of site) row.sides = open_sides site row is_open in
    let q : List ℕ = leasts row.sides in
    let split : q ≡ leasts sides ++ no_more = ap leasts is_open.2 ∙ map-append _ sides (whole_sides lasts) in
    let eights : length (leasts sides) ≡ 8 = within_length (firsts site) (leasts sides) (least_within (firsts site) sides is_open.1) in
    let back : point_of (packet_of q) no_ends ≡ q = subst (λ l. point_of (packet_of l) no_ends ≡ l) (sym split) (new_point (leasts sides) eights) in (
      subst (λ l. IsWithin (tops_of site) l) (sym back) (least_within (tops_of site) row.sides all),
      subst (λ l. IsTrue (sides_have row.sides l)) (sym back) (least_had (tops_of site) row.sides all),
    )

-- all rows of the table are open
pub rows_open : (site : Site) (tables : Tables) → AreRegular site tables → IsReduced tables.fresh.0 tables.fresh.1 → All (IsOpen (firsts site) lasts) (new_rows tables)
rows_open site tables regular reduced =
    subst (λ ts. All (IsOpen (firsts site) lasts) (paths_of ts tables.fresh.1)) (sym regular.fresh_tops)
    (rows_are_open (firsts site) lasts tables.fresh.1 (subst (λ ts. IsReduced ts tables.fresh.1) regular.fresh_tops reduced) (free_of_ends site tables regular))

-- Clauses

-- a packet of the row with which the rows first pass a limit
pub first_in : (site : Site) (tables : Tables) → AreRegular site tables → IsReduced tables.fresh.0 tables.fresh.1 → (Pass : List (Row Outcome) → Type 0) (at : ℕ) (row : Row Outcome) (p : List ℕ)
    → at < length (new_rows tables) → row ≡ get_or (new_rows tables) at row → p ≡ leasts row.sides → (Pass (take at (new_rows tables)) → ⊥) → Pass (take (at + 1) (new_rows tables))
    → NamesPacket site (IsInFirst Pass tables) (record { packet = packet_of p; rec = None }) None
first_in site tables regular reduced Pass at row p lt is e before here =
    let rows : List (Row Outcome) = new_rows tables in
    let one_open : IsOpen (firsts site) lasts row = subst (IsOpen (firsts site) lasts) (sym is) (rows_open site tables regular reduced at row lt) in
    let both = row_packet site row one_open in
    let more : take (at + 1) rows ≡ take at rows ++ row ∷ [] = take_more rows at row lt ∙ ap (λ r. take at rows ++ r ∷ []) (sym is) in
    record {
      of_site = subst (λ l. IsPacketOf site (packet_of l)) (sym e) both.0;
      new = refl;
      alone = refl;
      such = record {
        front = take at rows;
        row = row;
        back = drop (at + 1) rows;
        rows = sym (take-append-drop (at + 1) rows) ∙ ap (λ l. l ++ drop (at + 1) rows) more ∙ append_assoc (take at rows) (row ∷ []) (drop (at + 1) rows);
        before = before;
        here = subst Pass more here;
        within = subst (λ l. IsIn row (packet_of l)) (sym e) both.1;
      };
    }

-- and one of the row with which they first show more than n outcomes
pub first_packet : (site : Site) (tables : Tables) → AreRegular site tables → IsReduced tables.fresh.0 tables.fresh.1 → (n at : ℕ) (row : Row Outcome) (p : List ℕ)
    → IsFirstAbove n (new_rows tables) at → row ≡ get_or (new_rows tables) at row → p ≡ leasts row.sides
    → NamesPacket site (IsInFirst (ShowLeavesAbove n) tables) (record { packet = packet_of p; rec = None }) None
first_packet site tables regular reduced n at row p first is e =
    first_in site tables regular reduced (ShowLeavesAbove n) at row p first.within is e first.before first.here

-- a packet has room for the least point of a row
pub row_roomy : (site : Site) (tables : Tables) → IsSound site → AreRegular site tables → IsReduced tables.fresh.0 tables.fresh.1 → (at : ℕ) (row : Row Outcome) (p : List ℕ)
    → at < length (new_rows tables) → row ≡ get_or (new_rows tables) at row → p ≡ leasts row.sides → IsWithin widest p
row_roomy site tables sound regular reduced at row p lt is e =
    let one_open : IsOpen (firsts site) lasts row = subst (IsOpen (firsts site) lasts) (sym is) (rows_open site tables regular reduced at row lt) in
    subst (IsWithin widest) (sym e) (roomy site sound (leasts row.sides) (least_within (tops_of site) row.sides (open_sides site row one_open)))

-- rows that don't show more than n outcomes
pub few_met : (site : Site) (tables : Tables) → (ShowLeavesAbove 60000 (new_rows tables) → ⊥) → Meets site tables FewOutcomes
few_met site tables few first second named =
    let such = named.such in
    few (subst (ShowLeavesAbove 60000) (append_assoc such.front (such.row ∷ []) such.back ∙ sym such.rows) (more_rows 60000 (such.front ++ such.row ∷ []) such.back such.here))
