use Rattle.std.proofs.Common.{◌≡◌, ◌∷◌, ◌++◌, drop}
use Rattle.std.specs.List.{flat_map}
use Rattle.fws_print.specs.Words.{range_text}
use Rattle.fws_print.proofs.ranges.put_ranges.Given as goal

abbrev pub invariant-loop-iv : goal.invariant-loop-iv
invariant-loop-iv l =
    l.out ++ flat_map (λ iv. 44 ∷ range_text l.mark iv) (drop l.iv-index l.rest) ≡ l.initial.out ++ flat_map (λ iv. 44 ∷ range_text l.mark iv) l.rest
