use Rattle.std.proofs.Common.{IfSome, subst}
use Rattle.fws_net.specs.declared.condition.Lit.{Lit}
use Rattle.fws_join.specs.Joined.{IsEither}
use Rattle.fws_join.proofs.Eithers.{either_holds}
use Rattle.fws_join.proofs.two.joined_at.Goals as goal

pub returns-in_ok-with_lit-in-Some : goal.returns-in_ok-with_lit-in-Some
returns-in_ok-with_lit-in-Some c =
    let x = c.index-a-place.result in
    let y = c.index-b-place.result in
    either_holds c.args.a.now c.args.b.now c.in_ok-with_lit-in-Some.field-0 c.args.place x y c.in-Some.lit c.requires c.index-a-place.is c.index-b-place.is
    (subst (λ o. IfSome {T = Lit} o (IsEither x y)) c.in-Some.is c.in_ok-lit.ensures) c.in_ok-with_lit-in-Some.ensures
