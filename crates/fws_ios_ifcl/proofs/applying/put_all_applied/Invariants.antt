use Rattle.std.proofs.Common.{◌≡◌, ◌++◌, length, drop}
use Rattle.fws_ios_ifcl.specs.Blocks.{applied_from}
use Rattle.fws_ios_ifcl.proofs.applying.put_all_applied.Given as goal

abbrev pub invariant-loop-group : goal.invariant-loop-group
invariant-loop-group l =
    l.rules.items ++ applied_from l.outward (length l.rules.items) l.lists (drop l.group-index l.groups)
    ≡ l.fn.rules.items ++ applied_from l.outward (length l.fn.rules.items) l.lists l.groups
