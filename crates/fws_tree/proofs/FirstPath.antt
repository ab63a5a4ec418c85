-- The first path that is true, where paths are looked at one after the other.
use Rattle.std.proofs.Common.{◌≡◌, ◌<◌, ◌≤◌, ◌+◌, ℕ, zero, suc, Bool, true, false, Option, Some, None, List, [], ◌∷◌, ◌++◌, length, get_or, drop, drop-cons, All, Contains, MatchOption, refl, sym, ◌∙◌, ap, subst, arith}
use Rattle.std.proofs.lemmas.List.{append-nil, append_assoc, drop_all}
use Rattle.std.proofs.lemmas.List.Elements.{Contains-append_left, Contains-append_right, All-nil, All-append}
use Rattle.std.specs.List.{AllByRecursion}
use Rattle.std.specs.Option.{is_some}
use Rattle.std.specs.Prelude.{slice_get, slice_set}
use Rattle.fws_iv.specs.declared.iv.Iv.{Iv}
use Rattle.fws_tree.specs.declared.node.Kid.{Kid}
use Rattle.fws_tree.specs.declared.node.Node.{Node}
use Rattle.fws_tree.specs.declared.row.Row.{Row}
use Rattle.fws_tree.specs.Nodes.{tree_of, trees_after, kids_over, relabel, relabel_kids}
use Rattle.fws_tree.specs.Plain.{Plain, leaf}
use Rattle.fws_tree.specs.Rows.{paths_below, paths_through}
use Rattle.fws_tree.proofs.PathRows.{leaf_path, no_path}

-- the paths of the tree of a node
abbrev pub rows_at : List (List Iv) → List Bool → List Node → ℕ → List (Row Bool)
rows_at sides leaves nodes at = paths_below sides (relabel leaves (tree_of nodes at))

-- the paths through kids
abbrev pub rows_through : List (List Iv) → ℕ → List Bool → List Node → List Kid → List (Row Bool)
rows_through sides f leaves nodes ks = paths_through sides f (relabel_kids leaves (kids_over (trees_after [] nodes) ks))

-- a row is false
abbrev pub IsFalse : Row Bool → Type 0
IsFalse row = row.leaf ≡ false

-- of all rows these are left: those before them are false
abbrev pub IsLeft : List (Row Bool) → List (Row Bool) → Type 0
IsLeft all left = (before : List (Row Bool)) × (all ≡ before ++ left) × All IsFalse before

-- what is found among rows: the sides of one that is true, or that there is none
abbrev pub IsFirst : List (Row Bool) → Option (List (List Iv)) → Type 0
IsFirst rows found = MatchOption found (All IsFalse rows) (λ sides. Contains rows (record { sides = sides; leaf = true }))

-- all are left at first
pub all_left : (all rest : List (Row Bool)) → all ≡ rest → IsLeft all rest
all_left all rest e = ([], e, All-nil IsFalse)

-- where none is left, all are false
pub none_left : (all : List (Row Bool)) → IsLeft all [] → All IsFalse all
none_left all left = subst (λ rows. All IsFalse rows) (sym (left.1 ∙ append-nil left.0)) left.2

-- kids from a place on are the one there, and those behind it
rest_of : (ks : List Kid) (i : ℕ) (k : Kid) → i < length ks → drop i ks ≡ get_or ks i k ∷ drop (i + 1) ks
rest_of ks i k lt = drop-cons ks i k lt ∙ ap (λ n. get_or ks i k ∷ drop n ks) (next i)
  where
    next : (i : ℕ) → suc i ≡ i + 1
    next i = omega arith

-- the paths through kids are those of the first one, and those through the others
pub kid_rows : (sides : List (List Iv)) (f : ℕ) (leaves : List Bool) (nodes : List Node) (ks : List Kid) (i : ℕ) (k : Kid) → i < length ks → k ≡ get_or ks i k
    → rows_through sides f leaves nodes (drop i ks) ≡ rows_at (slice_set sides f k.set) leaves nodes k.node ++ rows_through sides f leaves nodes (drop (i + 1) ks)
kid_rows sides f leaves nodes ks i k lt is = ap (rows_through sides f leaves nodes) (rest_of ks i k lt)
    ∙ ap (λ x. rows_at (slice_set sides f x.set) leaves nodes x.node ++ rows_through sides f leaves nodes (drop (i + 1) ks)) (sym is)

-- behind a kid whose paths are false, those through the others are left
pub left_on : (all : List (Row Bool)) (head rest left : List (Row Bool)) → IsLeft all left → left ≡ head ++ rest → All IsFalse head → IsLeft all rest
left_on all head rest left h e none = (h.0 ++ head, h.1 ∙ ap (λ rows. h.0 ++ rows) e ∙ sym (append_assoc h.0 head rest), All-append IsFalse h.0 head h.2 none)

-- a path of the kid is one of all
pub first_left : (all head rest left : List (Row Bool)) (found : Option (List (List Iv))) → IsLeft all left → left ≡ head ++ rest → is_some found ≡ true → IsFirst head found → IsFirst all found
first_left all head rest left None h e some first = absurd (cc)
first_left all head rest left (Some s) h e some first =
    subst (λ rows. Contains rows (record { sides = s; leaf = true })) (sym (h.1 ∙ ap (λ rows. h.0 ++ rows) e))
    (Contains-append_right h.0 (head ++ rest) (record { sides = s; leaf = true }) (Contains-append_left head rest (record { sides = s; leaf = true }) first))

-- where none is found, all are false
pub none_first : (head : List (Row Bool)) (found : Option (List (List Iv))) → is_some found ≡ false → IsFirst head found → All IsFalse head
none_first head None none first = first
none_first head (Some s) none first = absurd (cc)

-- the others name nodes below the same one
pub below_on : (at : ℕ) (ks : List Kid) (i : ℕ) (k : Kid) → i < length ks → AllByRecursion (λ x. x.node < at) (drop i ks) → AllByRecursion (λ x. x.node < at) (drop (i + 1) ks)
below_on at ks i k lt below = (subst (λ xs. AllByRecursion (λ x. x.node < at) xs) (rest_of ks i k lt) below).1

-- the path of a leaf that is true
pub leaf_true : (leaves : List Bool) (sides : List (List Iv)) (t : Plain ℕ) (n : ℕ) → t ≡ leaf n → slice_get leaves n ≡ Some true → Contains (paths_below sides (relabel leaves t)) (record { sides = sides; leaf = true })
leaf_true leaves sides t n e there = subst (λ rows. Contains rows (record { sides = sides; leaf = true })) (leaf_path leaves sides t n true e there) (0, omega arith, refl)

-- that of one that is false
pub leaf_false : (leaves : List Bool) (sides : List (List Iv)) (t : Plain ℕ) (n : ℕ) → t ≡ leaf n → slice_get leaves n ≡ Some false → All IsFalse (paths_below sides (relabel leaves t))
leaf_false leaves sides t n e there = subst (λ rows. All IsFalse rows) (leaf_path leaves sides t n false e there) (one sides)
  where
    one : (sides : List (List Iv)) → All IsFalse (record { sides = sides; leaf = false } ∷ [])
    one sides zero d lt = refl
    one sides (suc k) d lt = absurd (omega (arith, lt))

-- a place without a leaf has none
pub no_leaf : (leaves : List Bool) (sides : List (List Iv)) (t : Plain ℕ) (n : ℕ) → t ≡ leaf n → slice_get leaves n ≡ None → All IsFalse (paths_below sides (relabel leaves t))
no_leaf leaves sides t n e there = subst (λ rows. All IsFalse rows) (no_path leaves sides t n e there) (All-nil IsFalse)

-- behind the last kid all paths are false
pub all_false : (sides : List (List Iv)) (f : ℕ) (leaves : List Bool) (nodes : List Node) (ks : List Kid) (i : ℕ) (all : List (Row Bool)) → length ks ≤ i
    → IsLeft all (rows_through sides f leaves nodes (drop i ks)) → All IsFalse all
all_false sides f leaves nodes ks i all le left = none_left all (subst (λ xs. IsLeft all (rows_through sides f leaves nodes xs)) (drop_all i ks le) left)
