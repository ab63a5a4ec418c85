use Rattle.std.proofs.Common.{◌≡◌, drop}
use Rattle.fws_ios_print.specs.Printable.{ranges_ascend}
use Rattle.fws_ios_print.proofs.printable_configs.ranges_ascend.Given as goal

abbrev pub invariant-loop-iv : goal.invariant-loop-iv
invariant-loop-iv l = ranges_ascend l.least l.most (drop l.iv-index l.set) ≡ ranges_ascend 1 l.most l.set
