-- Trees that are kept where a field lies in a set.
use Rattle.std.proofs.Common.{◌≡◌, Bool, true, false, Option, Some, refl}
use Rattle.std.specs.Prelude.{if◌then◌else◌}

-- what a tree that is kept has, where it is true
pub kept_true : (b : Bool) (v u : Option Bool) → u ≡ (if b then v else Some false) → u ≡ Some true → (b ≡ true) × (v ≡ Some true)
kept_true true v u e f = (refl, (cc))
kept_true false v u e f = absurd (cc)

pub kept_back : (b : Bool) (v u : Option Bool) → u ≡ (if b then v else Some false) → b ≡ true → v ≡ Some true → u ≡ Some true
kept_back true v u e here there = (cc)
kept_back false v u e here there = absurd (cc)
