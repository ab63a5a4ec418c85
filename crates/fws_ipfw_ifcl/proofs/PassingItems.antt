-- Items of a list that pass a test, put behind others one by one.
use Rattle.std.proofs.Common.{◌≡◌, ℕ, ◌+◌, ◌<◌, Bool, true, false, cond, List, [], ◌∷◌, ◌++◌, length, get_or, drop, filter, sym, ap, ◌∙◌, append_assoc}
use Rattle.std.proofs.lemmas.List.{drop_more}

-- what passes of a list from an item on
passing_from : {X : Type 0} (p : X → Bool) (xs : List X) (i : ℕ) (x : X) → i < length xs → x ≡ get_or xs i x
    → filter p (drop i xs) ≡ cond (p x) (x ∷ filter p (drop (i + 1) xs)) (filter p (drop (i + 1) xs))
passing_from p xs i x h is = ap (λ l. filter p l) (drop_more xs i x h ∙ ap (λ y. y ∷ drop (i + 1) xs) (sym is))

-- an item that passes is put behind the others
pub passing_put : {X : Type 0} (p : X → Bool) (xs : List X) (i : ℕ) (x : X) (ahead new all : List X) → i < length xs → x ≡ get_or xs i x → p x ≡ true
    → new ≡ ahead ++ x ∷ [] → ahead ++ filter p (drop i xs) ≡ all → new ++ filter p (drop (i + 1) xs) ≡ all
passing_put p xs i x ahead new all h is t e k =
    let rest = filter p (drop (i + 1) xs) in
    ap (λ l. l ++ rest) e ∙ append_assoc ahead (x ∷ []) rest
    ∙ ap (λ b. ahead ++ cond b (x ∷ rest) rest) (sym t) ∙ ap (λ l. ahead ++ l) (sym (passing_from p xs i x h is)) ∙ k

-- one that fails is left out
pub failing_left : {X : Type 0} (p : X → Bool) (xs : List X) (i : ℕ) (x : X) (ahead new all : List X) → i < length xs → x ≡ get_or xs i x → p x ≡ false → new ≡ ahead
    → ahead ++ filter p (drop i xs) ≡ all → new ++ filter p (drop (i + 1) xs) ≡ all
failing_left p xs i x ahead new all h is t e k =
    let rest = filter p (drop (i + 1) xs) in
    ap (λ l. l ++ rest) e ∙ ap (λ b. ahead ++ cond b (x ∷ rest) rest) (sym t) ∙ ap (λ l. ahead ++ l) (sym (passing_from p xs i x h is)) ∙ k
