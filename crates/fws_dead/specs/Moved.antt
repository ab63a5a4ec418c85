-- Points with another value.
use Rattle.std.specs.Prelude.{◌≡◌, ◌≢◌, ℕ, true, List, [], slice_index_or, slice_set}
use Rattle.fws_iv.specs.declared.iv.Iv.{Iv}
use Rattle.fws_iv.specs.Ivs.{has}
use Rattle.fws_dead.specs.declared.laid.Laid.{Laid}
use Rattle.fws_dead.specs.Laid.{laid_over}

-- a point with a value for the field that is a member of its side, and over which the two write differently
pub record IsMoved (sides : List (List Iv)) (point : List ℕ) (field : ℕ) (a b : Laid) (q : List ℕ) : Type 0 where
  pub value : ℕ
  pub is : q ≡ slice_set point field value
  pub had : has (slice_index_or sides field []) value ≡ true
  pub differ : laid_over a value ≢ laid_over b value
