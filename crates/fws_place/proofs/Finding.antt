-- The first path that is true.
use Rattle.std.proofs.Common.{◌≡◌, ℕ, suc, ◌+◌, ◌<◌, Bool, true, false, Option, Some, None, List, [], ◌∷◌, inl, inr, refl, sym, ◌∙◌, ap, subst, arith, zero-add, length, All, IsTrue, MatchOption}
use Rattle.std.proofs.lemmas.Bool.{cases_Bool, both_ways, cond-false}
use Rattle.std.proofs.lemmas.List.Elements.{All-contains}
use Rattle.std.specs.Prelude.{Contains}
use Rattle.fws_box.specs.Sides.{IsWithin, sides_have}
use Rattle.fws_net.specs.declared.site.Site.{Site}
use Rattle.fws_net.specs.Points.{tops_of}
use Rattle.fws_tree.specs.declared.row.Row.{Row}
use Rattle.fws_tree.specs.Plain.{Plain, value, IsReduced}
use Rattle.fws_tree.specs.Rows.{row_hits, paths_of}
use Rattle.fws_place.specs.Found.{IsTrueAt, IsTrueAtNoPair, IsTrueIn, IsTrueNowhere}
use Rattle.fws_place.specs.Meaning.{point_of}
use Rattle.fws_place.specs.Sides.{AreSidesOf, leasts}
use Rattle.fws_place.proofs.OpenRows.{least_had, least_within, rows_have_sides}

-- a row that holds the point
pub hit : {L : Type 0} (rows : List (Row L)) (p : List ℕ) → 0 < row_hits rows p → (row : Row L) × Contains rows row × (sides_have row.sides p ≡ true)
hit [] p lt = absurd (omega arith)
hit (row ∷ rows) p lt = elim (cases_Bool (sides_have row.sides p)) [
  | inl here ↦ (row, (0, omega arith, refl), here)
  | inr none ↦
      let e : row_hits (row ∷ rows) p ≡ row_hits rows p = ap (λ n. n + row_hits rows p) (cond-false {A = ℕ} (sides_have row.sides p) 1 0 none) ∙ zero-add (row_hits rows p) in
      let at = hit rows p (omega (arith, e)) in
      (at.0, (suc at.1.0, (let below : at.1.0 < length rows = at.1.1 in omega arith), at.1.2), at.2)
]

-- each row that holds a point has its value
abbrev AreRight : List ℕ → Plain Bool → List (Row Bool) → Type 0
AreRight tops t rows = (p : List ℕ) → IsWithin tops p → All (λ row. IsTrue (sides_have row.sides p) → value t p ≡ Some row.leaf) rows

some_same : (a b : Bool) → Some a ≡ Some b → a ≡ b
some_same a b e = cc

nowhere : (tops : List ℕ) (t : Plain Bool) (rows : List (Row Bool)) → ((p : List ℕ) → IsWithin tops p → row_hits rows p ≡ 1) → AreRight tops t rows
    → All (λ row. row.leaf ≡ false) rows → IsTrueNowhere tops t
nowhere tops t rows once right none p at =
    let one : row_hits rows p ≡ 1 = once p at.0 in
    let h = hit rows p (omega arith) in
    let v : value t p ≡ Some h.0.leaf = All-contains (λ row. IsTrue (sides_have row.sides p) → value t p ≡ Some row.leaf) rows h.0 (right p at.0) h.1 h.2 in
    both_ways h.0.leaf (All-contains (λ row. row.leaf ≡ false) rows h.0 none h.1) (some_same h.0.leaf true (sym v ∙ at.1))

somewhere : (tops : List ℕ) (t : Plain Bool) (rows : List (Row Bool)) (p : List ℕ) → IsReduced tops t → rows ≡ paths_of tops t → AreRight tops t rows → IsTrueIn rows p → IsTrueAt tops t p
somewhere tops t rows p reduced e right found =
    let row : Row Bool = found.0 in
    let sides : AreSidesOf tops row.sides = All-contains (λ r. AreSidesOf tops r.sides) rows row (subst (λ l. All (λ r. AreSidesOf tops r.sides) l) (sym e) (rows_have_sides tops t reduced)) found.1 in
    let q : List ℕ = leasts row.sides in
    let w : IsWithin tops q = least_within tops row.sides sides in
    let v : value t q ≡ Some row.leaf = All-contains (λ r. IsTrue (sides_have r.sides q) → value t q ≡ Some r.leaf) rows row (right q w) found.1 (least_had tops row.sides sides) in
    subst (λ l. IsTrueAt tops t l) (sym found.3) (w, v ∙ ap Some found.2)

-- what is found among the rows is found in the tree
pub found_in_tree : (tops : List ℕ) (t : Plain Bool) (rows : List (Row Bool)) (found : Option (List ℕ)) → IsReduced tops t → rows ≡ paths_of tops t
    → ((p : List ℕ) → IsWithin tops p → row_hits rows p ≡ 1) → AreRight tops t rows
    → MatchOption found (All (λ row. row.leaf ≡ false) rows) (IsTrueIn rows) → MatchOption found (IsTrueNowhere tops t) (IsTrueAt tops t)
found_in_tree tops t rows None reduced e once right h = nowhere tops t rows once right h
found_in_tree tops t rows (Some p) reduced e once right h = somewhere tops t rows p reduced e right h

-- a tree that is true nowhere is true at no pair
pub no_pair : (site : Site) (tree : List ℕ × Plain Bool) → tree.0 ≡ tops_of site → IsTrueNowhere tree.0 tree.1 → IsTrueAtNoPair site tree.1
no_pair site tree e none p r w at = none (point_of p r) (subst (λ ts. IsWithin ts (point_of p r)) (sym e) w, at)
