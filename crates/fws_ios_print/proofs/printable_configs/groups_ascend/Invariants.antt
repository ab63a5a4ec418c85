use Rattle.std.proofs.Common.{◌≡◌, drop}
use Rattle.fws_ios_print.specs.Printable.{groups_ascend}
use Rattle.fws_ios_print.proofs.printable_configs.groups_ascend.Given as goal

abbrev pub invariant-loop-group : goal.invariant-loop-group
invariant-loop-group l = groups_ascend l.least (drop l.group-index l.groups) ≡ groups_ascend 2 l.groups
