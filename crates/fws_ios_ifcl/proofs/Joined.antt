-- Lists that are put one behind the other.
use Rattle.std.proofs.Common.{◌≡◌, List, [], ◌∷◌, ◌++◌, ap, ◌∙◌, append_assoc}

-- four items
pub four : {X : Type 0} (old a b d e : List X) (w x y z : X) → a ≡ old ++ w ∷ [] → b ≡ a ++ x ∷ [] → d ≡ b ++ y ∷ [] → e ≡ d ++ z ∷ [] → e ≡ old ++ w ∷ x ∷ y ∷ z ∷ []
four old a b d e w x y z first second third fourth =
    fourth ∙ ap (λ l. l ++ z ∷ []) (third ∙ ap (λ l. l ++ y ∷ []) (second ∙ ap (λ l. l ++ x ∷ []) first))
    ∙ append_assoc ((old ++ w ∷ []) ++ x ∷ []) (y ∷ []) (z ∷ [])
    ∙ append_assoc (old ++ w ∷ []) (x ∷ []) (y ∷ z ∷ [])
    ∙ append_assoc old (w ∷ []) (x ∷ y ∷ z ∷ [])

-- four lists
pub four_lists : {X : Type 0} (old a b d e w x y z : List X) → a ≡ old ++ w → b ≡ a ++ x → d ≡ b ++ y → e ≡ d ++ z → e ≡ old ++ (w ++ x ++ y ++ z)
four_lists old a b d e w x y z first second third fourth =
    fourth ∙ ap (λ l. l ++ z) (third ∙ ap (λ l. l ++ y) (second ∙ ap (λ l. l ++ x) first))
    ∙ ap (λ l. l ++ z) (ap (λ l. l ++ y) (append_assoc old w x) ∙ append_assoc old (w ++ x) y) ∙ append_assoc old (w ++ x ++ y) z
