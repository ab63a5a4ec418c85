use Rattle.std.proofs.Common.{◌≡◌, drop}
use Rattle.fws_pf_print.specs.Printable.{behind_cond}
use Rattle.fws_pf_print.proofs.tags.behind_cond.Given as goal

abbrev pub invariant-loop-lit : goal.invariant-loop-lit
invariant-loop-lit l = behind_cond (drop l.lit-index l.cond) l.known ≡ behind_cond l.cond l.first
