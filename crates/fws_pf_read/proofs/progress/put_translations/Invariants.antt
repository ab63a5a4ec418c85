use Rattle.std.proofs.Common.{◌≡◌, ◌++◌, map}
use Rattle.fws_pf.specs.Drawn.{translation}
use Rattle.fws_pf_read.proofs.progress.put_translations.Given as goal

abbrev pub invariant-loop-cond : goal.invariant-loop-cond
invariant-loop-cond l = l.rules ≡ l.fn.rules ++ map (translation l.rule) l.yielded
