use Rattle.std.proofs.Common.{◌≡◌, ◌++◌, length, drop}
use Rattle.fws_ios_ifcl.specs.Blocks.{statics_from}
use Rattle.fws_ios_ifcl.proofs.statics.put_statics.Given as goal

abbrev pub invariant-loop-nat : goal.invariant-loop-nat
invariant-loop-nat l =
    l.rules.items ++ statics_from l.outward (length l.rules.items) (drop l.nat-index l.nats)
    ≡ l.fn.rules.items ++ statics_from l.outward (length l.fn.rules.items) l.nats
