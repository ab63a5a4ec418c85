use Rattle.std.proofs.Common.{◌≡◌, ◌∷◌, ◌++◌, drop}
use Rattle.std.specs.List.{flat_map}
use Rattle.fws_ipfw_print.specs.PrintedText.{prefix_word}
use Rattle.fws_ipfw_print.proofs.addresses.put_joined.Given as goal

abbrev pub invariant-loop-net : goal.invariant-loop-net
invariant-loop-net l = l.out ++ flat_map (λ net. 44 ∷ prefix_word net) (drop l.net-index l.rest) ≡ l.initial.out ++ flat_map (λ net. 44 ∷ prefix_word net) l.rest
