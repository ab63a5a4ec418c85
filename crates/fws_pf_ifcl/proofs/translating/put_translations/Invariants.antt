use Rattle.std.proofs.Common.{◌≡◌, ◌++◌, length, drop}
use Rattle.fws_pf_ifcl.specs.Blocks.{translations_from}
use Rattle.fws_pf_ifcl.proofs.translating.put_translations.Given as goal

abbrev pub invariant-loop-nat : goal.invariant-loop-nat
invariant-loop-nat l =
    l.rules.items ++ translations_from l.outward l.filter (length l.rules.items) (drop l.nat-index l.nats)
    ≡ l.fn.rules.items ++ translations_from l.outward l.filter (length l.fn.rules.items) l.nats
