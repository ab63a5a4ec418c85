use Rattle.std.proofs.Common.{◌≡◌, ◌++◌, drop}
use Rattle.std.specs.List.{flat_map}
use Rattle.fws_ipfw_print.specs.PrintedText.{numbers_of}
use Rattle.fws_ipfw_print.proofs.values.all_numbers.Given as goal

abbrev pub invariant-loop-iv : goal.invariant-loop-iv
invariant-loop-iv l = l.numbers.items ++ flat_map numbers_of (drop l.iv-index l.parts) ≡ flat_map numbers_of l.parts
