-- Steps whose greatest values don't fall.
use Rattle.std.specs.Prelude.{◌≡◌, ℕ, true, nat_eq, List, slice_get}
use Rattle.std.specs.HashSet.{contains}
use Rattle.std.specs.List.Sorted.{IsNonDecreasingBy}
use Rattle.fws_tree.specs.declared.held.Rising.{Rising}
use Rattle.fws_tree.specs.declared.store.Step.{Step}
use Rattle.fws_tree.specs.declared.store.Cell.{Cell}
use Rattle.fws_tree.specs.Parts.{own_steps}

-- the greatest values don't fall
abbrev pub Rise : List Step → Type 0
Rise steps = IsNonDecreasingBy (λ s. s.hi) steps

-- the steps of each noted cell rise
abbrev pub AreRising : List Cell → Rising → Type 0
AreRising cells rising = (at : ℕ) → contains nat_eq rising.cells at ≡ true → (field : ℕ) → Rise (own_steps field (slice_get cells at))
