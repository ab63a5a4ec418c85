use Rattle.std.proofs.Common.{◌≡◌, ◌++◌, drop}
use Rattle.std.specs.List.{flat_map}
use Rattle.fws_ipfw_print.specs.PrintedText.{blocks_of}
use Rattle.fws_ipfw_print.proofs.addresses.all_blocks.Given as goal

abbrev pub invariant-loop-iv : goal.invariant-loop-iv
invariant-loop-iv l = l.nets.items ++ flat_map blocks_of (drop l.iv-index l.parts) ≡ flat_map blocks_of l.parts
