-- Rows with destinations exchanged.
use Rattle.std.proofs.Common.{◌≡◌, ℕ, suc, ◌+◌, ◌<◌, Bool, true, false, ◌&&◌, Option, Some, List, [], ◌∷◌, inl, inr, refl, sym, ◌∙◌, ap, subst, arith, zero-add, length, get_or, All, IsTrue}
use Rattle.std.proofs.lemmas.Bool.{cases_Bool, cond-true, cond-false}
use Rattle.std.proofs.lemmas.List.Elements.{All-head, All-tail}
use Rattle.std.proofs.lemmas.List.FromFn.{fill_by_all}
use Rattle.fws_iv.specs.declared.iv.Iv.{Iv}
use Rattle.fws_iv.specs.Ivs.{has}
use Rattle.fws_box.specs.Sides.{IsWithin, sides_have}
use Rattle.fws_tree.specs.declared.row.Row.{Row}
use Rattle.fws_tree.specs.Plain.{Plain, value, IsReduced}
use Rattle.fws_tree.specs.Rows.{first_leaf, row_hits, paths_of}
use Rattle.fws_place.specs.AheadOfLookup.{exchanged, exchanged_row, exchanged_rows}
use Rattle.fws_place.specs.Sides.{AreSidesOf}
use Rattle.fws_place.proofs.OpenRows.{rows_have_sides}
use Rattle.fws_place.proofs.PairPoints.{within_length}

-- Sides

-- four tests ahead of others
four_ahead : (e f g h x : Bool) → (e && (f && (g && (h && x)))) ≡ ((e && (f && (g && h))) && x)
four_ahead false f g h x = refl
four_ahead true false g h x = refl
four_ahead true true false h x = refl
four_ahead true true true h x = refl

-- two tests in the places of two others
in_places : (c d m k l n : Bool) → (c && (d && (m && (k && (l && n))))) ≡ (k && (l && (m && (c && (d && n)))))
in_places false d m false l n = refl
in_places false d m true false n = refl
in_places false d false true true n = refl
in_places false d true true true n = refl
in_places true false m false l n = refl
in_places true false m true false n = refl
in_places true false false true true n = refl
in_places true false true true true n = refl
in_places true true true k l n = refl
in_places true true false false l n = refl
in_places true true false true false n = refl
in_places true true false true true n = refl

apart : (c d e f g h k l n : Bool) → (c && (d && (e && (f && (g && (h && (k && (l && n)))))))) ≡ (k && (l && (e && (f && (g && (h && (c && (d && n))))))))
apart c d e f g h k l n =
    let m : Bool = e && (f && (g && h)) in
    ap (λ x. c && (d && x)) (four_ahead e f g h (k && (l && n))) ∙ in_places c d m k l n ∙ sym (ap (λ x. k && (l && x)) (four_ahead e f g h (c && (d && n))))

-- the twelve items of a list
abbrev twelve_of : {X : Type 0} → List X → X → List X
twelve_of xs d = get_or xs 0 d ∷ get_or xs 1 d ∷ get_or xs 2 d ∷ get_or xs 3 d ∷ get_or xs 4 d ∷ get_or xs 5 d ∷ get_or xs 6 d ∷ get_or xs 7 d
    ∷ get_or xs 8 d ∷ get_or xs 9 d ∷ get_or xs 10 d ∷ get_or xs 11 d ∷ []

twelve : {X : Type 0} (xs : List X) (d : X) → length xs ≡ 12 → xs ≡ twelve_of xs d
twelve xs d n = fill_by_all (λ k. get_or xs k d) xs 12 d n (λ k lt. refl)

-- exchanged sides have a point where the sides have the exchanged point
exchanged_have : (s : List (List Iv)) (p : List ℕ) → length s ≡ 12 → length p ≡ 12 → sides_have (exchanged s) p ≡ sides_have s (exchanged p)
exchanged_have s p n m =
    let side : ℕ → List Iv = λ k. get_or s k [] in
    let at : ℕ → ℕ = λ k. get_or p k 0 in
    let test : ℕ → ℕ → Bool = λ k j. has (side k) (at j) in
    ap (λ l. sides_have (exchanged l) p) (twelve s [] n) ∙ ap (λ l. sides_have (exchanged (twelve_of s [])) l) (twelve p 0 m)
    ∙ ap (λ b. test 0 0 && (test 1 1 && b))
    (apart (test 8 2) (test 9 3) (test 4 4) (test 5 5) (test 6 6) (test 7 7) (test 2 8) (test 3 9) (test 10 10 && (test 11 11 && true)))
    ∙ sym (ap (λ l. sides_have l (exchanged p)) (twelve s [] n) ∙ ap (λ l. sides_have (twelve_of s []) (exchanged l)) (twelve p 0 m))

-- Rows

taken : (row : Row Bool) (rows : List (Row Bool)) → row.leaf ≡ true → exchanged_rows (row ∷ rows) ≡ exchanged_row row ∷ exchanged_rows rows
taken row rows e = cond-true row.leaf (exchanged_row row ∷ exchanged_rows rows) (exchanged_rows rows) e

left_out : (row : Row Bool) (rows : List (Row Bool)) → row.leaf ≡ false → exchanged_rows (row ∷ rows) ≡ exchanged_rows rows
left_out row rows e = cond-false row.leaf (exchanged_row row ∷ exchanged_rows rows) (exchanged_rows rows) e

-- with its sides exchanged each row has the one point where it has the other one
abbrev HaveBoth : List ℕ → List ℕ → List (Row Bool) → Type 0
HaveBoth q p rows = All (λ row. sides_have (exchanged row.sides) q ≡ sides_have row.sides p) rows

-- each row that has the point has this value
abbrev HaveValue : Option Bool → List ℕ → List (Row Bool) → Type 0
HaveValue v p rows = All (λ row. IsTrue (sides_have row.sides p) → v ≡ Some row.leaf) rows

-- a row that doesn't have the point doesn't count
passed_by : (q p : List ℕ) (row : Row Bool) (rows : List (Row Bool)) → HaveBoth q p (row ∷ rows) → sides_have row.sides p ≡ false
    → first_leaf (exchanged_rows (row ∷ rows)) false q ≡ first_leaf (exchanged_rows rows) false q
passed_by q p row rows same outside = elim (cases_Bool row.leaf) [
  | inr off ↦ ap (λ rs. first_leaf rs false q) (left_out row rows off)
  | inl on ↦
      let here : sides_have (exchanged row.sides) q ≡ sides_have row.sides p = All-head (λ r. sides_have (exchanged r.sides) q ≡ sides_have r.sides p) row rows same in
      ap (λ rs. first_leaf rs false q) (taken row rows on)
      ∙ cond-false (sides_have (exchanged row.sides) q) row.leaf (first_leaf (exchanged_rows rows) false q) (here ∙ outside)
]

-- where the value is false no row is left that has the point
none_true : (v : Option Bool) (q p : List ℕ) (rows : List (Row Bool)) → HaveBoth q p rows → HaveValue v p rows → v ≡ Some false
    → first_leaf (exchanged_rows rows) false q ≡ false
none_true v q p [] same right e = refl
none_true v q p (row ∷ rows) same right e =
    let rest : first_leaf (exchanged_rows rows) false q ≡ false
    = none_true v q p rows (All-tail (λ r. sides_have (exchanged r.sides) q ≡ sides_have r.sides p) row rows same)
    (All-tail (λ r. IsTrue (sides_have r.sides p) → v ≡ Some r.leaf) row rows right) e in
    elim (cases_Bool row.leaf) [
      | inr off ↦ ap (λ rs. first_leaf rs false q) (left_out row rows off) ∙ rest
      | inl on ↦ elim (cases_Bool (sides_have row.sides p)) [
        | inl here ↦ let there : v ≡ Some row.leaf = All-head (λ r. IsTrue (sides_have r.sides p) → v ≡ Some r.leaf) row rows right here in absurd (cc)
        | inr outside ↦ passed_by q p row rows same outside ∙ rest
      ]
    ]

-- the value is that of the first exchanged row, or false
first_exchanged : (v : Option Bool) (q p : List ℕ) (rows : List (Row Bool)) → HaveBoth q p rows → HaveValue v p rows → 0 < row_hits rows p
    → Some (first_leaf (exchanged_rows rows) false q) ≡ v
first_exchanged v q p [] same right lt = absurd (omega arith)
first_exchanged v q p (row ∷ rows) same right lt = elim (cases_Bool (sides_have row.sides p)) [
  | inl here ↦
      let there : v ≡ Some row.leaf = All-head (λ r. IsTrue (sides_have r.sides p) → v ≡ Some r.leaf) row rows right here in
      let both : sides_have (exchanged row.sides) q ≡ sides_have row.sides p = All-head (λ r. sides_have (exchanged r.sides) q ≡ sides_have r.sides p) row rows same in
      elim (cases_Bool row.leaf) [
        | inl on ↦ ap (λ rs. Some (first_leaf rs false q)) (taken row rows on)
            ∙ ap Some (cond-true (sides_have (exchanged row.sides) q) row.leaf (first_leaf (exchanged_rows rows) false q) (both ∙ here)) ∙ sym there
        | inr off ↦ ap Some (none_true v q p (row ∷ rows) same right (there ∙ ap Some off)) ∙ sym (there ∙ ap Some off)
      ]
  | inr outside ↦
      let hits : row_hits (row ∷ rows) p ≡ row_hits rows p = ap (λ n. n + row_hits rows p) (cond-false {A = ℕ} (sides_have row.sides p) 1 0 outside) ∙ zero-add (row_hits rows p) in
      ap Some (passed_by q p row rows same outside)
      ∙ first_exchanged v q p rows (All-tail (λ r. sides_have (exchanged r.sides) q ≡ sides_have r.sides p) row rows same)
      (All-tail (λ r. IsTrue (sides_have r.sides p) → v ≡ Some r.leaf) row rows right) (omega (arith, hits))
]

-- Trees

sides_length : (tops : List ℕ) (sides : List (List Iv)) → AreSidesOf tops sides → length sides ≡ length tops
sides_length [] [] a = refl
sides_length [] (s ∷ sides) a = absurd a
sides_length (top ∷ tops) [] a = absurd a
sides_length (top ∷ tops) (s ∷ sides) a = ap suc (sides_length tops sides a.2)

-- the first of the exchanged rows of a tree has the value at the exchanged point
pub exchanged_value : (tops : List ℕ) (t : Plain Bool) (paths rows : List (Row Bool)) → length tops ≡ 12 → IsReduced tops t → paths ≡ paths_of tops t
    → rows ≡ exchanged_rows paths → ((p : List ℕ) → IsWithin tops p → row_hits paths p ≡ 1)
    → ((p : List ℕ) → IsWithin tops p → All (λ row. IsTrue (sides_have row.sides p) → value t p ≡ Some row.leaf) paths)
    → (q : List ℕ) → IsWithin tops q → IsWithin tops (exchanged q) → Some (first_leaf rows false q) ≡ value t (exchanged q)
exchanged_value tops t paths rows n reduced e made once right q w v =
    let sides : All (λ row. AreSidesOf tops row.sides) paths = subst (λ l. All (λ row. AreSidesOf tops row.sides) l) (sym e) (rows_have_sides tops t reduced) in
    let one : row_hits paths (exchanged q) ≡ 1 = once (exchanged q) v in
    ap (λ rs. Some (first_leaf rs false q)) made
    ∙ first_exchanged (value t (exchanged q)) q (exchanged q) paths
    (λ k d lt. exchanged_have (get_or paths k d).sides q (sides_length tops (get_or paths k d).sides (sides k d lt) ∙ n) (within_length tops q w ∙ n))
    (right (exchanged q) v) (omega (arith, one))
