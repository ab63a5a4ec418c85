use Rattle.std.proofs.Common.{◌≡◌, drop}
use Rattle.fws_pf_print.specs.Printable.{behind_rules}
use Rattle.fws_pf_print.proofs.tags.behind_rules.Given as goal

abbrev pub invariant-loop-r : goal.invariant-loop-r
invariant-loop-r l = behind_rules (drop l.r-index l.rules) l.known ≡ behind_rules l.rules l.first
