-- The rows of trees of truth values.
use Rattle.std.proofs.Common.{◌≡◌, ℕ, zero, suc, ◌+◌, ◌≤◌, Bool, true, false, ◌&&◌, ◌||◌, not, Option, Some, List, [], ◌∷◌, get_or, length, inl, inr, refl, sym, ◌∙◌, ap, subst, arith, All}
use Rattle.std.proofs.lemmas.Bool.{and_from, and_parts, cases_Bool, false≢true, le-leb, leb-true, eqb-true, or_left, or_right, MatchBool-at_true, MatchBool-at_false}
use Rattle.std.proofs.lemmas.List.Elements.{All-append, All-cons, All-head, All-nil, All-tail}
use Rattle.std.specs.List.{list_all}
use Rattle.std.specs.Prelude.{nat_eq, nat_le, slice_index, slice_set, unwrap_or, map, if◌then◌else◌}
use Rattle.fws_box.specs.Sides.{IsWithin, sides_have, whole_sides}
use Rattle.fws_iv.specs.declared.iv.Iv.{Iv}
use Rattle.fws_iv.specs.Ivs.{has, least, IsRegular}
use Rattle.fws_tree.specs.declared.row.Row.{Row}
use Rattle.fws_tree.specs.Plain.{Plain, leaf, cut, Kids, none, kid, EachKid, Parts, IsReducedFrom, IsReduced}
use Rattle.fws_tree.specs.Rows.{paths_below, paths_of, paths_through, row_hits}
use Rattle.fws_ios_put_cover.specs.Boxes.{part}
use Rattle.fws_ios_put_cover.specs.Inside.{true_row_has, IsFilledBox}

-- ---- values

some_same : (a b : Bool) → Some a ≡ Some b → a ≡ b
some_same a b e = cc

hits_rest : (b : Bool) (n : ℕ) → b ≡ false → (if b then 1 else 0) + n ≡ 1 → n ≡ 1
hits_rest true n e h = absurd (false≢true (sym e))
hits_rest false n e h = omega (arith, h)

-- where all rows are true, each point is
pub rows_true : (rows : List (Row Bool)) (y : List ℕ) (v : Option Bool) → row_hits rows y ≡ 1 → All (λ row. sides_have row.sides y ≡ true → v ≡ Some row.leaf) rows
    → list_all (λ row. row.leaf) rows ≡ true → v ≡ Some true
rows_true [] y v once right all = absurd (omega (arith, once))
rows_true (r ∷ rows) y v once right all =
    let parts = and_parts r.leaf (list_all (λ row. row.leaf) rows) all in
    elim (cases_Bool (sides_have r.sides y)) [
      | inl in_it ↦ All-head (λ row. sides_have row.sides y ≡ true → v ≡ Some row.leaf) r rows right in_it ∙ ap Some parts.0
      | inr out ↦ rows_true rows y v (hits_rest (sides_have r.sides y) (row_hits rows y) out once)
          (All-tail (λ row. sides_have row.sides y ≡ true → v ≡ Some row.leaf) r rows right) parts.1
    ]

-- a point that is true lies in a row that is true
pub rows_hit : (rows : List (Row Bool)) (x : List ℕ) (v : Option Bool) → row_hits rows x ≡ 1 → All (λ row. sides_have row.sides x ≡ true → v ≡ Some row.leaf) rows
    → v ≡ Some true → true_row_has rows x ≡ true
rows_hit [] x v once right is = absurd (omega (arith, once))
rows_hit (r ∷ rows) x v once right is = elim (cases_Bool (sides_have r.sides x)) [
  | inl in_it ↦ (let it : r.leaf ≡ true = some_same r.leaf true (sym (All-head (λ row. sides_have row.sides x ≡ true → v ≡ Some row.leaf) r rows right in_it) ∙ is) in
      or_left (r.leaf && sides_have r.sides x) (true_row_has rows x) (and_from r.leaf (sides_have r.sides x) it in_it))
  | inr out ↦ or_right (r.leaf && sides_have r.sides x) (true_row_has rows x)
      (rows_hit rows x v (hits_rest (sides_have r.sides x) (row_hits rows x) out once)
      (All-tail (λ row. sides_have row.sides x ≡ true → v ≡ Some row.leaf) r rows right) is)
]

-- ---- rows have points

-- the least value of a set, 0 where there is none
abbrev least_of : List Iv → ℕ
least_of s = unwrap_or (least s) 0

-- a set with a member, and none past the top
record FillsSide (top : ℕ) (s : List Iv) : Type 0 where
  first : has s (least_of s) ≡ true
  low : (v : ℕ) → has s v ≡ true → v ≤ top

abbrev AreFilled : List ℕ → List (List Iv) → Type 0
AreFilled [] [] = Unit {0}
AreFilled [] (s ∷ sides) = ⊥
AreFilled (top ∷ tops) [] = ⊥
AreFilled (top ∷ tops) (s ∷ sides) = FillsSide top s × AreFilled tops sides

set_filled : (tops : List ℕ) (sides : List (List Iv)) (g : ℕ) (s : List Iv) → FillsSide (slice_index tops g) s → AreFilled tops sides → AreFilled tops (slice_set sides g s)
set_filled [] [] g s f h = h
set_filled [] (r ∷ sides) g s f h = absurd h
set_filled (top ∷ tops) [] g s f h = absurd h
set_filled (top ∷ tops) (r ∷ sides) zero s f h = (f, h.1)
set_filled (top ∷ tops) (r ∷ sides) (suc g) s f h = (h.0, set_filled tops sides g s f h.1)

-- the side of a kid
kid_fills : (s : List Iv) (top x : ℕ) → IsRegular s → ((y : ℕ) → has s y ≡ true → y ≤ top) → has s x ≡ true → FillsSide top s
kid_fills [] top x regular low h = absurd (false≢true h)
kid_fills (i ∷ s) top x regular low h = record {
  first = or_left (nat_le i.lo i.lo && nat_le i.lo i.hi) (has s i.lo) (and_from (nat_le i.lo i.lo) (nat_le i.lo i.hi) (le-leb i.lo i.lo (omega arith)) (le-leb i.lo i.hi regular.1));
  low = low;
}

whole_fills : (top : ℕ) → FillsSide top (record { lo = 0; hi = top } ∷ [])
whole_fills top = record {
  first = or_left (nat_le 0 0 && nat_le 0 top) false (and_from (nat_le 0 0) (nat_le 0 top) (le-leb 0 0 (omega arith)) (le-leb 0 top (omega arith)));
  low = λ v h. leb-true v top (inside v top h);
}
  where
    inside : (v top : ℕ) → ((nat_le 0 v && nat_le v top) || false) ≡ true → nat_le v top ≡ true
    inside v top h = (and_parts (nat_le 0 v) (nat_le v top) (plain (nat_le 0 v && nat_le v top) h)).1
      where
        plain : (b : Bool) → (b || false) ≡ true → b ≡ true
        plain true h = refl
        plain false h = h

whole_filled : (tops : List ℕ) → AreFilled tops (whole_sides tops)
whole_filled [] = tt
whole_filled (top ∷ tops) = (whole_fills top, whole_filled tops)

off_parts : (b c : Bool) → (b && not c) ≡ true → b ≡ true
off_parts b c e = (and_parts b (not c) e).0

through : (Good : Row Bool → Type 0) (Q : Plain Bool → Type 0) (sides : List (List Iv)) (g top : ℕ)
    → ((s : List Iv) (u : Plain Bool) → FillsSide top s → Q u → All Good (paths_below (slice_set sides g s) u))
    → (domain : ℕ → Bool) (ks : Kids Bool) → ((x : ℕ) → domain x ≡ true → nat_le x top ≡ true) → Parts domain ks → EachKid Q ks → All Good (paths_through sides g ks)
through Good Q sides g top each domain none low parts kids = All-nil Good
through Good Q sides g top each domain (kid s t ks) low parts kids =
    let x : ℕ = parts.2.0 in
    All-append Good (paths_below (slice_set sides g s) t) (paths_through sides g ks)
    (each s t (kid_fills s top x parts.0 (λ y h. leb-true y top (low y (parts.1 y h))) parts.2.1) kids.0)
    (through Good Q sides g top each (λ y. domain y && not (has s y)) ks (λ y h. low y (off_parts (domain y) (has s y) h)) parts.4 kids.1)

filled_below : (all : List ℕ) (f : ℕ) (rest : List ℕ) (t : Plain Bool) (sides : List (List Iv)) → ((i : ℕ) → slice_index all (f + i) ≡ slice_index rest i) → IsReducedFrom f rest t → AreFilled all sides
    → All (λ row. AreFilled all row.sides) (paths_below sides t)
filled_below all f rest (leaf a) sides at r h = All-cons (λ row. AreFilled all row.sides) (record { sides = sides; leaf = a }) [] h (All-nil (λ row. AreFilled all row.sides))
filled_below all f [] (cut g ks) sides at r h = absurd r
filled_below all f (top ∷ tops) (cut g ks) sides at r h =
    let later : (i : ℕ) → slice_index all (suc f + i) ≡ slice_index tops i = λ i. ap (λ n. slice_index all n) (one_on f i) ∙ at (suc i) in
    elim (cases_Bool (nat_eq g f)) [
      | inl y ↦ (let m = MatchBool-at_true _ _ y r in
          let here : slice_index all g ≡ top = ap (λ n. slice_index all n) (eqb-true g f y ∙ no_more f) ∙ at 0 in
          through (λ row. AreFilled all row.sides) (IsReducedFrom (suc f) tops) sides g top
          (λ s u fills q. filled_below all (suc f) tops u (slice_set sides g s) later q (set_filled all sides g s (subst (λ n. FillsSide n s) (sym here) fills) h))
          (λ x. nat_le x top) ks (λ x d. d) m.1 m.2)
      | inr n ↦ filled_below all (suc f) tops (cut g ks) sides later (MatchBool-at_false _ _ n r) h
    ]
  where
    one_on : (f i : ℕ) → suc f + i ≡ f + suc i
    one_on f i = omega arith

    no_more : (f : ℕ) → f ≡ f + 0
    no_more f = omega arith

filled_length : (tops : List ℕ) (sides : List (List Iv)) → AreFilled tops sides → length sides ≡ length tops
filled_length [] [] h = refl
filled_length [] (s ∷ sides) h = absurd h
filled_length (top ∷ tops) [] h = absurd h
filled_length (top ∷ tops) (s ∷ sides) h = ap suc (filled_length tops sides h.1)

filled_low : (tops : List ℕ) (sides : List (List Iv)) (f v : ℕ) → AreFilled tops sides → has (part sides f) v ≡ true → v ≤ slice_index tops f
filled_low [] [] f v h it = absurd (false≢true it)
filled_low [] (s ∷ sides) f v h it = absurd h
filled_low (top ∷ tops) [] f v h it = absurd h
filled_low (top ∷ tops) (s ∷ sides) zero v h it = h.0.low v it
filled_low (top ∷ tops) (s ∷ sides) (suc f) v h it = filled_low tops sides f v h.1 it

least_within : (tops : List ℕ) (sides : List (List Iv)) → AreFilled tops sides → IsWithin tops (map least_of sides)
least_within [] [] h = tt
least_within [] (s ∷ sides) h = absurd h
least_within (top ∷ tops) [] h = absurd h
least_within (top ∷ tops) (s ∷ sides) h = (h.0.low (least_of s) h.0.first, least_within tops sides h.1)

least_had : (tops : List ℕ) (sides : List (List Iv)) → AreFilled tops sides → sides_have sides (map least_of sides) ≡ true
least_had [] [] h = refl
least_had [] (s ∷ sides) h = absurd h
least_had (top ∷ tops) [] h = absurd h
least_had (top ∷ tops) (s ∷ sides) h = and_from (has s (least_of s)) (sides_have sides (map least_of sides)) h.0.first (least_had tops sides h.1)

-- each row of a reduced tree has a point
pub rows_filled : (tops : List ℕ) (t : Plain Bool) → length tops ≡ 12 → IsReduced tops t → All (λ row. IsFilledBox tops row.sides) (paths_of tops t)
rows_filled tops t twelve r k d lt =
    let h = filled_below tops 0 tops t (whole_sides tops) (λ i. ap (λ n. slice_index tops n) (none_on i)) r (whole_filled tops) k d lt in
    filled_box (get_or (paths_of tops t) k d).sides h
  where
    none_on : (i : ℕ) → 0 + i ≡ i
    none_on i = omega arith

    filled_box : (sides : List (List Iv)) → AreFilled tops sides → IsFilledBox tops sides
    filled_box sides h = record {
      twelve = filled_length tops sides h ∙ twelve;
      low = λ f v less it. filled_low tops sides f v h it;
      point = map least_of sides;
      point_within = least_within tops sides h;
      has_point = least_had tops sides h;
    }
