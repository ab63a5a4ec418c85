use Rattle.std.proofs.Common.{sym, subst}
use Rattle.fws_exec.specs.Hulls.{HasAt}
use Rattle.fws_exec.proofs.merge.take_one.Goals as goal

pub returns-clause-taken : goal.returns-clause-taken
returns-clause-taken c p had = c.in_ok-widen.ensures.has p (c.hull_at-own.ensures p (subst (λ hs. HasAt hs c.args.place p) (sym c.as_slice.ensures.value) had))
