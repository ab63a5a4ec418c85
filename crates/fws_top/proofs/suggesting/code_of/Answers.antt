use Rattle.std.proofs.Common.{◌≡◌, true, IfSome, Option}
use Rattle.std.proofs.lemmas.Result.{IfOk-weaker}
use Rattle.fws_flat.specs.declared.code.Flat.{Flat}
use Rattle.fws_flat.specs.Soundness.{flat_ok}
use Rattle.fws_top.specs.Codes.{Does, IsUnfolded}
use Rattle.fws_top.proofs.Suggestions.{unfolded_does, unfolded_ok}
use Rattle.fws_top.proofs.suggesting.code_of.Goals as goal

pub returns-clause-ok : goal.returns-clause-ok
returns-clause-ok g c =
    let d = c.in_ok-diagram.diagram in
    IfOk-weaker c.flat_of.result (λ (code : Option Flat). IfSome code (IsUnfolded d)) (λ (code : Option Flat). IfSome code (λ flat. flat_ok flat ≡ true))
    (λ code unfolded. unfolded_ok d code unfolded) c.flat_of.ensures

pub returns-clause-does : goal.returns-clause-does
returns-clause-does g c =
    let site = c.args.site.now in
    let config = c.args.config.now in
    let walk = g.L.Source.walk config site in
    let d = c.in_ok-diagram.diagram in
    IfOk-weaker c.flat_of.result (λ (code : Option Flat). IfSome code (IsUnfolded d)) (λ (code : Option Flat). IfSome code (λ flat. Does flat site walk))
    (λ code unfolded. unfolded_does site d walk (g.L.Source.refusal site config) code c.in_ok-diagram.ensures.refused c.in_ok-diagram.ensures.means unfolded)
    c.flat_of.ensures
