use Rattle.std.proofs.Common.{◌≡◌, drop}
use Rattle.fws_pf_print.specs.Printable.{behind_translations}
use Rattle.fws_pf_print.proofs.tags.behind_translations.Given as goal

abbrev pub invariant-loop-nat : goal.invariant-loop-nat
invariant-loop-nat l = behind_translations (drop l.nat-index l.nats) l.known ≡ behind_translations l.nats l.first
