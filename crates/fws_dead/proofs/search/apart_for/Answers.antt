use Rattle.std.proofs.Common.{MatchOption, Option, sym, subst}
use Rattle.fws_net.specs.declared.outcome.Outcome.{Outcome}
use Rattle.fws_dead.specs.Searched.{AreAlikeFor, IsApartFor}
use Rattle.fws_dead.proofs.Finding.{for_pair}
use Rattle.fws_dead.proofs.search.apart_for.Goals as goal

pub returns-in-Some : goal.returns-in-Some
returns-in-Some c tops row =
    let s = c.args.state in
    let sides = c.args.sides.now in
    let r = for_pair s tops sides c.in-Some.pair c.apart_in.result (c.apart_in.ensures tops row) in
    assumption (
      r,
      subst (λ (o : Option (Outcome × Outcome)). MatchOption c.apart_in.result (AreAlikeFor s tops sides o) (IsApartFor s tops sides o)) (sym c.in-Some.is) r,
    )
