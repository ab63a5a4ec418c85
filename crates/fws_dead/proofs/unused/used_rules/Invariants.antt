use Rattle.std.proofs.Common.{◌≡◌, ℕ, ◌<◌, false, length, take, get_or}
use Rattle.std.specs.HashSet.{contains}
use Rattle.fws_dead.specs.Used.{has_spot, key_eq, key_of}
use Rattle.fws_dead.proofs.unused.used_rules.Given as goal

abbrev pub invariant-loop-spot : goal.invariant-loop-spot
invariant-loop-spot l = record {
  entries : length l.marks.items ≡ l.rules;
  marks : (n : ℕ) → n < l.rules → get_or l.marks.items n false ≡ has_spot (λ at. contains key_eq l.used (key_of at)) (take l.spot-index l.spots) n;
}
