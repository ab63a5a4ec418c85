use Rattle.std.proofs.Common.{◌≡◌, ◌+◌, Bool, drop}
use Rattle.fws_pf_ifcl.specs.Blocks.{translation_widths}
use Rattle.fws_pf_ifcl.proofs.translating.translation_widths.Given as goal

abbrev pub invariant-loop-nat : goal.invariant-loop-nat
invariant-loop-nat l = (outward : Bool) → l.count + translation_widths outward (drop l.nat-index l.nats) ≡ translation_widths outward l.nats
