-- Values that aren't equal.
use Rattle.std.specs.Prelude.{◌≡◌, ◌⊎◌, Option, Some, None}

-- two values, and the pair of them unless they are equal
pub record IsUnequal {L : Type 0} (first second : Option L) (both : Option (Option (L × L))) : Type 0 where
  pub one : L
  pub two : L
  pub first_is : first ≡ Some one
  pub second_is : second ≡ Some two
  pub both_is : ((both ≡ Some None) × (one ≡ two)) ⊎ (both ≡ Some (Some (one, two)))
