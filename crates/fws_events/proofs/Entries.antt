-- An entry of a list.
use Rattle.std.proofs.Common.{◌≡◌, ℕ, suc, ◌-◌, ◌<◌, ◌≤◌, List, [], ◌∷◌, ◌++◌, length, take, drop, get_or, sym, ◌∙◌, ap, arith, length-append}
use Rattle.std.proofs.lemmas.List.{append-nil, take-append-drop, take_all, drop_all}
use Rattle.std.proofs.Math.Seq.{drop-cons, take-append_seam}
use Rattle.std.specs.List.{remove}

-- a list as what stands before the entry, the entry, and what stands behind it
pub parted : {A : Type 0} (k : ℕ) (xs : List A) (d : A) → k < length xs → xs ≡ take k xs ++ get_or xs k d ∷ drop (suc k) xs
parted k xs d lt = sym (take-append-drop k xs) ∙ ap (λ ys. take k xs ++ ys) (drop-cons xs k d lt)

-- where there is no such entry, none is taken out
pub none_there : {A : Type 0} (k : ℕ) (xs : List A) → length xs ≤ k → remove xs k ≡ xs
none_there k xs le =
    let more : length xs ≤ suc k = omega arith in
    ap (λ ys. ys ++ drop (suc k) xs) (take_all k xs le) ∙ ap (λ ys. xs ++ ys) (drop_all (suc k) xs more) ∙ append-nil xs

-- a list without the entry that was put behind it
pub taken_back : {A : Type 0} (xs : List A) (x : A) → take (length (xs ++ x ∷ []) - 1) (xs ++ x ∷ []) ≡ xs
taken_back xs x =
    let one : length (xs ++ x ∷ []) - 1 ≡ length xs = omega (arith, length-append xs (x ∷ [])) in
    ap (λ n. take n (xs ++ x ∷ [])) one ∙ take-append_seam xs (x ∷ [])
