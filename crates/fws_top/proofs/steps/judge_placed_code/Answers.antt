use Rattle.std.proofs.Common.{IfErr, sym, subst}
use Rattle.std.proofs.lemmas.Result.{IfOk-weaker}
use Rattle.fws_top.specs.Judged.{judge}
use Rattle.fws_top.specs.PlacedCodes.{IsPlacedCode, IsUnfoldedOf}
use Rattle.fws_top.specs.Plan.{judged}
use Rattle.fws_top.specs.Steps.{EndsIn}
use Rattle.fws_top.proofs.PlacedPolicies.{told_code}
use Rattle.fws_top.proofs.steps.judge_placed_code.Goals as goal

pub returns-clause-code : goal.returns-clause-code
returns-clause-code c =
    let site = c.args.site.now in
    let text = judge c.args.lang site c.args.bytes.now in
    let placed = c.in_ok-placed.placed in
    IfOk-weaker c.placed_code.result (IsUnfoldedOf placed) (IsPlacedCode (judged c.args.name.now text) site)
    (λ code made. told_code c.args.name.now site text placed code c.in_ok-placed.ensures.placed made) c.placed_code.ensures.code

pub returns-clause-refused : goal.returns-clause-refused
returns-clause-refused c =
    let is = c.in_ok-placed.ensures.placed in
    subst (λ text. IfErr c.placed_code.result (EndsIn (judged c.args.name.now text))) (sym is.judged) (c.placed_code.ensures.refused is.policy)

pub placed_code-requires : goal.placed_code-requires
placed_code-requires c = c.in_ok-placed.ensures.placed.ok
