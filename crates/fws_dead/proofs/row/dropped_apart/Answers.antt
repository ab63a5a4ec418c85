use Rattle.std.proofs.Common.{sym, subst}
use Rattle.fws_net.specs.declared.outcome.Outcome.{Outcome}
use Rattle.fws_net.specs.declared.outcome.Outcome.TheVariants.{Drop}
use Rattle.fws_dead.specs.Rows.{AreAlikeIn}
use Rattle.fws_dead.proofs.Writing.{both_drop, other_accepts}
use Rattle.fws_dead.proofs.row.dropped_apart.Goals as goal

pub returns-in-Drop : goal.returns-in-Drop
returns-in-Drop c state tops sides within h = assumption (
  both_drop state tops sides,
  subst (λ (o : Outcome). AreAlikeIn state tops sides Drop o) (sym c.in-Drop.is) (both_drop state tops sides),
)

pub returns-in-Accept : goal.returns-in-Accept
returns-in-Accept c state tops sides within h = other_accepts state tops sides c.args.other _ c.args.point.now c.in-Accept.is within h
