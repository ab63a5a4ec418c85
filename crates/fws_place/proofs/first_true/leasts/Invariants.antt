use Rattle.std.proofs.Common.{◌≡◌, ℕ, ◌<◌, [], length, get_or}
use Rattle.fws_place.specs.Sides.{least_of}
use Rattle.fws_place.proofs.first_true.leasts.Given as goal

abbrev pub invariant-loop-k : goal.invariant-loop-k
invariant-loop-k l = record {
  twelve : length l.point ≡ 12;
  least : (k : ℕ) → k < l.k → get_or l.point k 0 ≡ least_of (get_or l.sides k []);
}
