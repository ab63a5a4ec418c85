-- That a list of intervals is regular has at most one proof.
use Rattle.std.specs.Prelude.{ℕ, List, [], ◌∷◌, ◌+◌}
use Rattle.std.specs.Coded.{Unit-prop, le_prop}
use Rattle.fws_iv.specs.declared.iv.Iv.{Iv}
use Rattle.fws_iv.specs.Ivs.{IsRegularFrom}

pub regular-prop : (from : ℕ) (xs : List Iv) → IsProp (IsRegularFrom from xs)
regular-prop from [] = Unit-prop
regular-prop from (x ∷ xs) = λ a b. λ i. (le_prop a.0 b.0 i, le_prop a.1 b.1 i, regular-prop (x.hi + 2) xs a.2 b.2 i)
