use Rattle.std.proofs.Common.{◌≡◌, drop}
use Rattle.fws_print.specs.Sets.{ascend_from}
use Rattle.fws_print.proofs.sets.ranges_ascend.Given as goal

abbrev pub invariant-loop-iv : goal.invariant-loop-iv
invariant-loop-iv l = ascend_from l.most l.from (drop l.iv-index l.parts) ≡ ascend_from l.most 0 l.parts
