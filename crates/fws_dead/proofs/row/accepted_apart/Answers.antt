use Rattle.std.proofs.Common.{MatchOption, sym, subst}
use Rattle.fws_net.specs.declared.outcome.Outcome.{Outcome}
use Rattle.fws_net.specs.declared.outcome.Outcome.TheVariants.{Accept}
use Rattle.fws_dead.specs.Rows.{AreAlikeIn, IsApartIn}
use Rattle.fws_dead.proofs.Writing.{second_drops}
use Rattle.fws_dead.proofs.row.accepted_apart.Goals as goal

pub returns-in-Drop : goal.returns-in-Drop
returns-in-Drop c tops row within h = assumption (
  second_drops c.args.state tops c.args.sides.now c.args.first c.args.point.now within h,
  subst (λ (o : Outcome). IsApartIn c.args.state tops c.args.sides.now (Accept c.args.first) o c.args.point.now) (sym c.in-Drop.is)
      (second_drops c.args.state tops c.args.sides.now c.args.first c.args.point.now within h),
)

pub returns-in-Accept : goal.returns-in-Accept
returns-in-Accept c tops row within h =
    let v = c.args.first in
    let s = c.args.state in
    let sides = c.args.sides.now in
    assumption (
      c.rewritings_apart.ensures tops row within h,
      subst (λ (o : Outcome). MatchOption c.rewritings_apart.result (AreAlikeIn s tops sides (Accept v) o) (IsApartIn s tops sides (Accept v) o)) (sym c.in-Accept.is) (c.rewritings_apart.ensures tops row within h),
    )
