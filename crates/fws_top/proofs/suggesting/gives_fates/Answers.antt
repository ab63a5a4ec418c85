use Rattle.std.proofs.Common.{Some, IfSome, subst}
use Rattle.fws_top.specs.Codes.{Does}
use Rattle.fws_top.proofs.suggesting.gives_fates.Goals as goal

pub is_alike-requires-clause-regular : goal.is_alike-requires-clause-regular
is_alike-requires-clause-regular g c =
    let site = c.args.site.now in
    let config = c.args.config.now in
    let text = c.requires.from_text in
    let walk = g.L.Source.walk config site in
    let does : IfSome (Some c.in-Some.flat) (λ flat. Does flat site walk) =
    subst (λ code. IfSome code (λ flat. Does flat site walk)) c.in-Some.is c.in_ok-code.ensures.does in
    (walk, does, c.spelled_walks_are_regular.ensures site text.0 config text.1)
