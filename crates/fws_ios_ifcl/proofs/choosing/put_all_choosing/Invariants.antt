use Rattle.std.proofs.Common.{◌≡◌, [], ◌++◌, length, drop}
use Rattle.fws_ios_ifcl.specs.Blocks.{choosing_from}
use Rattle.fws_ios_ifcl.proofs.choosing.put_all_choosing.Given as goal

abbrev pub invariant-loop-nat : goal.invariant-loop-nat
invariant-loop-nat l =
    l.rules.items ++ choosing_from (length l.rules.items) l.lists l.asked.keys (drop l.nat-index l.nats)
    ≡ l.fn.rules.items ++ choosing_from (length l.fn.rules.items) l.lists [] l.nats
