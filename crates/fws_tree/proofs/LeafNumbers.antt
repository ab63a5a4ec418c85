-- The leaves of rows, by number.
use Rattle.std.proofs.Common.{◌≡◌, ℕ, zero, suc, ◌+◌, ◌<◌, ◌≤◌, Option, Some, List, [], ◌∷◌, ◌++◌, length, get_or, slice_get, map, take, refl, sym, ◌∙◌, ap, subst}
use Rattle.std.proofs.lemmas.List.{length-map, take_all, take_more, map_push}
use Rattle.fws_tree.specs.Building.{Extends, AreNumbersOf}
use Rattle.fws_tree.specs.declared.row.Row.{Row}

front : {X : Type 0} (xs ys : List X) (n : ℕ) (x : X) → slice_get xs n ≡ Some x → slice_get (xs ++ ys) n ≡ Some x
front [] ys n x e = absurd (cc)
front (y ∷ xs) ys zero x e = e
front (y ∷ xs) ys (suc n) x e = front xs ys n x e

-- an item stays at its place when more is added behind
pub slice_get-extends : {X : Type 0} (xs ys : List X) (n : ℕ) (x : X) → Extends xs ys → slice_get xs n ≡ Some x → slice_get ys n ≡ Some x
slice_get-extends xs ys n x e h = ap (λ zs. slice_get zs n) e.1 ∙ front xs e.0 n x h

numbers-extends : {L : Type 0} (leaves more : List L) (numbers : List ℕ) (rows : List (Row L)) → Extends leaves more → AreNumbersOf leaves numbers rows → AreNumbersOf more numbers rows
numbers-extends leaves more [] [] e h = refl
numbers-extends leaves more [] (r ∷ rows) e h = absurd (cc)
numbers-extends leaves more (n ∷ numbers) [] e h = absurd (cc)
numbers-extends leaves more (n ∷ numbers) (r ∷ rows) e h =
    let here : slice_get leaves n ≡ Some r.leaf = cc in
    let rest : AreNumbersOf leaves numbers rows = cc in
    ap (λ o. o ∷ map (λ k. slice_get more k) numbers) (slice_get-extends leaves more n r.leaf e here) ∙ ap (λ os. Some r.leaf ∷ os) (numbers-extends leaves more numbers rows e rest)

-- one more row
pub numbers-more : {L : Type 0} (leaves more : List L) (numbers : List ℕ) (rows : List (Row L)) (i : ℕ) (row : Row L) (n : ℕ) (leaf : L) → Extends leaves more → AreNumbersOf leaves numbers (take i rows)
    → i < length rows → row ≡ get_or rows i row → leaf ≡ row.leaf → slice_get more n ≡ Some leaf → AreNumbersOf more (numbers ++ n ∷ []) (take (i + 1) rows)
numbers-more leaves more numbers rows i row n leaf e h lt is same at =
    map_push (λ k. slice_get more k) numbers n ∙ ap (λ os. os ++ slice_get more n ∷ []) (numbers-extends leaves more numbers (take i rows) e h)
    ∙ ap (λ o. map (λ r. Some r.leaf) (take i rows) ++ o ∷ []) (at ∙ ap Some same ∙ ap (λ r. Some r.leaf) is)
    ∙ sym (map_push (λ r. Some r.leaf) (take i rows) (get_or rows i row)) ∙ sym (ap (λ rs. map (λ r. Some r.leaf) rs) (take_more rows i row lt))

pub numbers-all : {L : Type 0} (leaves more : List L) (numbers : List ℕ) (rows : List (Row L)) (i : ℕ) → Extends leaves more → AreNumbersOf leaves numbers (take i rows) → length rows ≤ i → AreNumbersOf more numbers rows
numbers-all leaves more numbers rows i e h le = subst (λ rs. AreNumbersOf more numbers rs) (take_all i rows le) (numbers-extends leaves more numbers (take i rows) e h)

pub length-numbers : {L : Type 0} (leaves : List L) (numbers : List ℕ) (rows : List (Row L)) → AreNumbersOf leaves numbers rows → length numbers ≡ length rows
length-numbers leaves numbers rows h = sym (length-map numbers (λ n. slice_get leaves n)) ∙ ap (λ (os : List (Option _)). length os) h ∙ length-map rows (λ r. Some r.leaf)
