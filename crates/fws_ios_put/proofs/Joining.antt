-- Blocks that are put one behind another.
use Rattle.std.proofs.Common.{◌≡◌, List, [], ◌∷◌, ◌++◌, refl, ap, ◌∙◌, append_assoc}

-- what stands behind three blocks
pub three_behind : {X : Type 0} (old one two three a b d : List X) → one ≡ old ++ a → two ≡ one ++ b → three ≡ two ++ d → three ≡ old ++ (a ++ b ++ d)
three_behind old one two three a b d p q r =
    r ∙ ap (λ l. l ++ d) q ∙ ap (λ l. l ++ b ++ d) p ∙ ap (λ l. l ++ d) (append_assoc old a b) ∙ append_assoc old (a ++ b) d

-- and behind two
pub two_behind : {X : Type 0} (old one two a b : List X) → one ≡ old ++ a → two ≡ one ++ b → two ≡ old ++ (a ++ b)
two_behind old one two a b p q = q ∙ ap (λ l. l ++ b) p ∙ append_assoc old a b

pub nothing_behind : {X : Type 0} (xs : List X) → xs ≡ xs ++ []
nothing_behind [] = refl
nothing_behind (x ∷ xs) = ap (λ l. x ∷ l) (nothing_behind xs)
