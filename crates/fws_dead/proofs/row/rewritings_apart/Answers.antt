use Rattle.std.proofs.Common.{MatchOption, sym, subst}
use Rattle.fws_net.specs.declared.outcome.Outcome.TheVariants.{Accept}
use Rattle.fws_net.specs.declared.packet.State.{State}
use Rattle.fws_dead.specs.Rows.{AreAlikeIn, IsApartIn}
use Rattle.fws_dead.proofs.Writing.{both_established}
use Rattle.fws_dead.proofs.row.rewritings_apart.Goals as goal

pub returns-in-Fresh : goal.returns-in-Fresh
returns-in-Fresh c tops row within h =
    let v = c.args.first in
    let w = c.args.second in
    let sides = c.args.sides.now in
    assumption (
      c.ends_apart.ensures tops row within h,
      subst (λ (s : State). MatchOption c.ends_apart.result (AreAlikeIn s tops sides (Accept v) (Accept w)) (IsApartIn s tops sides (Accept v) (Accept w))) (sym c.in-Fresh.is) (c.ends_apart.ensures tops row within h),
    )

pub returns-in-Est : goal.returns-in-Est
returns-in-Est c tops row within h =
    let v = c.args.first in
    let w = c.args.second in
    let sides = c.args.sides.now in
    assumption (
      both_established tops sides v w,
      subst (λ (s : State). AreAlikeIn s tops sides (Accept v) (Accept w)) (sym c.in-Est.is) (both_established tops sides v w),
    )
