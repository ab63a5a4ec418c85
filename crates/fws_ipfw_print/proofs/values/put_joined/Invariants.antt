use Rattle.std.proofs.Common.{◌≡◌, ◌∷◌, ◌++◌, drop, decimal}
use Rattle.std.specs.List.{flat_map}
use Rattle.fws_ipfw_print.proofs.values.put_joined.Given as goal

abbrev pub invariant-loop-n : goal.invariant-loop-n
invariant-loop-n l = l.out ++ flat_map (λ n. 44 ∷ decimal n) (drop l.n-index l.rest) ≡ l.initial.out ++ flat_map (λ n. 44 ∷ decimal n) l.rest
