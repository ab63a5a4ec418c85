use Rattle.std.proofs.Common.{sym, subst}
use Rattle.fws_exec.specs.Hulls.{HasPoint}
use Rattle.fws_exec.proofs.Bounding.{set_grows, set_here}
use Rattle.fws_exec.proofs.hulls.widen.Goals as goal

pub returns-clause-grown : goal.returns-clause-grown
returns-clause-grown c n p had = set_grows c.reach.new.hulls.items c.args.number c.with.result _ c.in_ok-reach.ensures.reached (λ q h. c.with.ensures.first q (subst (λ k. HasPoint k q) (sym c.index.ensures) h)) n p (c.in_ok-reach.ensures.grown n p had)

pub returns-clause-has : goal.returns-clause-has
returns-clause-has c p h = (c.with.result, set_here c.reach.new.hulls.items c.args.number c.with.result c.in_ok-reach.ensures.reached, c.with.ensures.second p h)
