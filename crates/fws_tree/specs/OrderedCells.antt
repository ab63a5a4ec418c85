-- That cells name earlier ones alone has at most one proof.
use Rattle.std.specs.Prelude.{ℕ, suc, List, [], ◌∷◌}
use Rattle.std.specs.Coded.{Unit-prop, le_prop}
use Rattle.fws_tree.specs.declared.store.Cell.{Cell}
use Rattle.fws_tree.specs.declared.store.Cell.TheVariants.{Leaf, Cut}
use Rattle.fws_tree.specs.Held.{IsCellBelow, AreOrderedFrom}

below-prop : (n : ℕ) (c : Cell) → IsProp (IsCellBelow n c)
below-prop n (Leaf k) = Unit-prop
below-prop n (Cut f ss last) = λ a b. λ i. ((λ k d lt. le_prop (a.0 k d lt) (b.0 k d lt) i), le_prop a.1 b.1 i)

pub ordered-prop : (n : ℕ) (cs : List Cell) → IsProp (AreOrderedFrom n cs)
ordered-prop n [] = Unit-prop
ordered-prop n (c ∷ cs) = λ a b. λ i. (below-prop n c a.0 b.0 i, ordered-prop (suc n) cs a.1 b.1 i)
