use Rattle.std.proofs.Common.{MatchOption, sym, subst}
use Rattle.fws_net.specs.declared.outcome.Outcome.{Outcome}
use Rattle.fws_dead.specs.Rows.{AreAlikeIn, IsApartIn}
use Rattle.fws_dead.proofs.row.outcomes_apart.Goals as goal

pub returns-in-Drop : goal.returns-in-Drop
returns-in-Drop c tops row within h =
    let s = c.args.state in
    let sides = c.args.sides.now in
    let y = c.args.second in
    let r = c.dropped_apart.ensures s tops sides within h in
    assumption (
      r,
      subst (λ (o : Outcome). MatchOption c.dropped_apart.result (AreAlikeIn s tops sides o y) (IsApartIn s tops sides o y)) (sym c.in-Drop.is) r,
    )

pub returns-in-Accept : goal.returns-in-Accept
returns-in-Accept c tops row within h =
    let s = c.args.state in
    let sides = c.args.sides.now in
    let y = c.args.second in
    let r = c.accepted_apart.ensures tops row within h in
    assumption (
      r,
      subst (λ (o : Outcome). MatchOption c.accepted_apart.result (AreAlikeIn s tops sides o y) (IsApartIn s tops sides o y)) (sym c.in-Accept.is) r,
    )
