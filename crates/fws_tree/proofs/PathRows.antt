-- The rows of the paths of a tree.
use Rattle.std.proofs.Common.{◌≡◌, ℕ, zero, suc, Some, None, List, [], ◌∷◌, ◌++◌, ◌+◌, ◌<◌, length, get_or, set, drop, drop-cons, refl, sym, ◌∙◌, ap, subst, arith, append_assoc}
use Rattle.std.specs.Prelude.{slice_get, slice_set, slice_index_or}
use Rattle.std.specs.List.{AllByRecursion}
use Rattle.fws_iv.specs.declared.iv.Iv.{Iv}
use Rattle.fws_tree.specs.declared.node.Kid.{Kid}
use Rattle.fws_tree.specs.declared.row.Row.{Row}
use Rattle.fws_tree.specs.Plain.{Plain, leaf, cut, none}
use Rattle.fws_tree.specs.Nodes.{kids_over, relabel, relabel_kids}
use Rattle.fws_tree.specs.Rows.{paths_below, paths_through}

-- one row, for a place with a leaf
pub leaf_path : {L : Type 0} (leaves : List L) (sides : List (List Iv)) (t : Plain ℕ) (n : ℕ) (a : L) → t ≡ leaf n → slice_get leaves n ≡ Some a
    → record { sides = sides; leaf = a } ∷ [] ≡ paths_below sides (relabel leaves t)
leaf_path leaves sides t n a e s = rw (e, s)

-- no row, for a place without one
pub no_path : {L : Type 0} (leaves : List L) (sides : List (List Iv)) (t : Plain ℕ) (n : ℕ) → t ≡ leaf n → slice_get leaves n ≡ None
    → [] ≡ paths_below sides (relabel leaves t)
no_path leaves sides t n e s = rw (e, s)

-- what stood at a place, put there again
pub put_back : {A : Type 0} (xs : List A) (i n : ℕ) (v r d : A) → length xs ≡ n → i < n → r ≡ get_or xs i d → set (set xs i v) i r ≡ xs
put_back [] i n v r d l lt e = refl
put_back (x ∷ xs) zero n v r d l lt e = ap (λ h. h ∷ xs) e
put_back (x ∷ xs) (suc i) n v r d l lt e = ap (λ t. x ∷ t) (put_back xs i (length xs) v r d refl (omega arith) e)

-- the rows so far and those of the next kid, in front of those of the kids behind it
pub next_paths : {L : Type 0} (before whole : List (Row L)) (leaves : List L) (trees : List (Plain ℕ)) (sides there : List (List Iv)) (f : ℕ) (ks : List Kid) (i : ℕ) (k : Kid)
    → i < length ks → k ≡ get_or ks i k → there ≡ slice_set sides f k.set
    → before ++ paths_through sides f (relabel_kids leaves (kids_over trees (drop i ks))) ≡ whole
    → (before ++ paths_below there (relabel leaves (slice_index_or trees k.node (cut 0 none)))) ++ paths_through sides f (relabel_kids leaves (kids_over trees (drop (i + 1) ks))) ≡ whole
next_paths before whole leaves trees sides there f ks i k lt is e h =
    let rest = paths_through sides f (relabel_kids leaves (kids_over trees (drop (i + 1) ks))) in
    let tree = relabel leaves (slice_index_or trees k.node (cut 0 none)) in
    append_assoc before (paths_below there tree) rest
    ∙ ap (λ s. before ++ (paths_below s tree ++ rest)) e
    ∙ ap (λ l. before ++ paths_through sides f (relabel_kids leaves (kids_over trees l))) (sym (drop_read ks i k lt is)) ∙ h
  where
    drop_read : (ks : List Kid) (i : ℕ) (k : Kid) → i < length ks → k ≡ get_or ks i k → drop i ks ≡ k ∷ drop (i + 1) ks
    drop_read ks i k lt is =
        let next : suc i ≡ i + 1 = omega arith in
        drop-cons ks i k lt ∙ ap (λ z. z ∷ drop (suc i) ks) (sym is) ∙ ap (λ n. k ∷ drop n ks) next

-- what holds of all kids that are left holds of those behind the next one
pub kids_behind : (P : Kid → Type 0) (ks : List Kid) (i : ℕ) (k : Kid) → i < length ks → AllByRecursion P (drop i ks) → AllByRecursion P (drop (i + 1) ks)
kids_behind P ks i k lt h =
    let next : suc i ≡ i + 1 = omega arith in
    subst (λ n. AllByRecursion P (drop n ks)) next (subst (AllByRecursion P) (drop-cons ks i k lt) h).1
