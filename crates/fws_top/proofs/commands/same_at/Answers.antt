use Rattle.std.proofs.Common.{rules}
use Rattle.std.proofs.lemmas.Result.{IfErr-weaker, IfOk-weaker}
use Rattle.fws_top.specs.Answered.{Answered, Stopped}
use Rattle.fws_top.specs.declared.status.Status.TheVariants as status
use Rattle.fws_top.specs.Judged.{Policy}
use Rattle.fws_top.specs.Parts.{other_part}
use Rattle.fws_top.specs.Plan.{Plan, source_plan}
use Rattle.fws_top.proofs.AnsweredCommands.{step_stops}
use Rattle.fws_top.proofs.Chosen.{answered_behind, stopped_behind}
use Rattle.fws_top.proofs.commands.same_at.Goals as goal

pub returns-in_err-code-clause-stopped : goal.returns-in_err-code-clause-stopped
returns-in_err-code-clause-stopped g c =
    let next : Policy → Plan = λ policy. other_part c.args.site.now policy.walk c.args.other_lang c.args.other_name.now in
    let stops = step_stops (source_plan c.args.lang c.args.site.now c.args.file_name.now) (g.S.Shelf.told c.args.shelf.now) (g.S.Shelf.faults c.args.shelf.now)
    (g.S.Shelf.faults c.take_source.new.shelf) c.in_err-code.field-0.0 next c.in_err-code.ensures.stopped in
    search (rules, stops)

pub same_by-requires-clause-regular : goal.same_by-requires-clause-regular
same_by-requires-clause-regular g c =
    let code = c.in_ok-code.ensures.code in
    (code.policy.walk, code.does, code.regular)

pub returns-clause-answered : goal.returns-clause-answered
returns-clause-answered g c =
    let told = g.S.Shelf.told c.args.shelf.now in
    let before = g.S.Shelf.told c.take_source.new.shelf in
    let old = g.S.Shelf.faults c.args.shelf.now in
    let at = g.S.Shelf.faults c.take_source.new.shelf in
    let new = g.S.Shelf.faults c.same_by.new.shelf in
    let code = c.in_ok-code.ensures.code in
    let next : Policy → Plan = λ policy. other_part c.args.site.now policy.walk c.args.other_lang c.args.other_name.now in
    let plan : (Policy → Plan) → Plan = source_plan c.args.lang c.args.site.now c.args.file_name.now in
    IfOk-weaker c.same_by.result (Answered (next code.policy) before at new status.Ok) (Answered (plan next) told old new status.Ok)
    (λ t a. answered_behind plan told before old at new status.Ok t next code.policy code.goes_on c.in_ok-code.ensures.same c.in_ok-code.ensures.quiet a)
    (c.same_by.ensures.answered code.policy.walk code.does)

pub returns-clause-stopped : goal.returns-clause-stopped
returns-clause-stopped g c =
    let told = g.S.Shelf.told c.args.shelf.now in
    let before = g.S.Shelf.told c.take_source.new.shelf in
    let old = g.S.Shelf.faults c.args.shelf.now in
    let at = g.S.Shelf.faults c.take_source.new.shelf in
    let new = g.S.Shelf.faults c.same_by.new.shelf in
    let code = c.in_ok-code.ensures.code in
    let next : Policy → Plan = λ policy. other_part c.args.site.now policy.walk c.args.other_lang c.args.other_name.now in
    let plan : (Policy → Plan) → Plan = source_plan c.args.lang c.args.site.now c.args.file_name.now in
    IfErr-weaker c.same_by.result (Stopped (next code.policy) before at new) (Stopped (plan next) told old new)
    (λ stop s. stopped_behind plan told before old at new stop next code.policy code.goes_on c.in_ok-code.ensures.same c.in_ok-code.ensures.quiet s)
    (c.same_by.ensures.stopped code.policy.walk)
