use Rattle.std.proofs.Common.{◌≡◌, ◌++◌, drop}
use Rattle.fws_num.specs.Written.{ended}
use Rattle.fws_pf_print.specs.PrintedText.{translation_lines}
use Rattle.fws_pf_print.proofs.translations.put_translations.Given as goal

abbrev pub invariant-loop-nat : goal.invariant-loop-nat
invariant-loop-nat l = l.out ++ ended (translation_lines l.site l.redirects (drop l.nat-index l.nats)) ≡ l.initial.out ++ ended (translation_lines l.site l.redirects l.nats)
