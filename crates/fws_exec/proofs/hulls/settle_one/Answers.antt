use Rattle.std.proofs.Common.{sym, subst}
use Rattle.fws_exec.specs.Hulls.{HasAt}
use Rattle.fws_exec.proofs.hulls.settle_one.Goals as goal

pub returns-clause-settled : goal.returns-clause-settled
returns-clause-settled c p had inside = c.in_ok-widen.ensures.has p (c.within-moved.ensures p (c.hull_at-own.ensures p (subst (λ hs. HasAt hs c.args.from p) (sym c.as_slice.ensures.value) had)) inside)
