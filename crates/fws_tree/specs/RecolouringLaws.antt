-- How values and what was moved stay over a recolouring.
use Rattle.std.proofs.Common.{◌≡◌, ℕ, List, [], ◌++◌, sym, ◌∙◌, ap, subst, append_assoc}
use Rattle.std.proofs.lemmas.List.{append-nil}
use Rattle.fws_tree.specs.Building.{Extends}
use Rattle.fws_tree.specs.Recoloured.{IsRecoloured, StaysMoved}

pub extends-same : {X : Type 0} (xs : List X) → Extends xs xs
extends-same xs = ([], sym (append-nil xs))

pub extends-then : {X : Type 0} (xs ys zs : List X) → Extends xs ys → Extends ys zs → Extends xs zs
extends-then xs ys zs a b = (a.0 ++ b.0, b.1 ∙ ap (λ t. t ++ b.0) a.1 ∙ append_assoc xs a.0 b.0)

pub recoloured-kept : (old new : ℕ → ℕ → ℕ → Type 0) (values more : List ℕ) (wanted same x l z : ℕ) → StaysMoved old new → values ≡ more → wanted ≡ same → IsRecoloured old values wanted x l z → IsRecoloured new more same x l z
recoloured-kept old new values more wanted same x l z stays e w g =
    subst (λ k. IsRecoloured new more k x l z) w (subst (λ vs. IsRecoloured new vs wanted x l z) e (g.0, g.1, λ h i. stays x l z (g.2 h i)))
