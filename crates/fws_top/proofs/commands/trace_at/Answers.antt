use Rattle.std.proofs.Common.{rules}
use Rattle.std.proofs.lemmas.Result.{IfErr-weaker, IfOk-weaker}
use Rattle.fws_top.specs.Answered.{Answered, Stopped}
use Rattle.fws_top.specs.declared.status.Status.TheVariants as status
use Rattle.fws_top.specs.Judged.{Policy}
use Rattle.fws_top.specs.Parts.{conns_part}
use Rattle.fws_top.specs.Plan.{Plan, source_plan}
use Rattle.fws_top.proofs.AnsweredCommands.{step_stops}
use Rattle.fws_top.proofs.Chosen.{answered_behind, stopped_behind}
use Rattle.fws_top.proofs.commands.trace_at.Goals as goal

pub returns-in_err-code-clause-stopped : goal.returns-in_err-code-clause-stopped
returns-in_err-code-clause-stopped g c =
    let next : Policy → Plan = λ policy. conns_part c.args.site.now policy.walk c.args.conns_name.now c.args.packets_name.now in
    let stops = step_stops (source_plan c.args.lang c.args.site.now c.args.file_name.now) (g.S.Shelf.told c.args.shelf.now) (g.S.Shelf.faults c.args.shelf.now)
    (g.S.Shelf.faults c.take_source.new.shelf) c.in_err-code.field-0.0 next c.in_err-code.ensures.stopped in
    search (rules, stops)

pub returns-clause-answered : goal.returns-clause-answered
returns-clause-answered g c =
    let told = g.S.Shelf.told c.args.shelf.now in
    let before = g.S.Shelf.told c.take_source.new.shelf in
    let old = g.S.Shelf.faults c.args.shelf.now in
    let at = g.S.Shelf.faults c.take_source.new.shelf in
    let new = g.S.Shelf.faults c.trace_by.new.shelf in
    let code = c.in_ok-code.ensures.code in
    let next : Policy → Plan = λ policy. conns_part c.args.site.now policy.walk c.args.conns_name.now c.args.packets_name.now in
    let plan : (Policy → Plan) → Plan = source_plan c.args.lang c.args.site.now c.args.file_name.now in
    IfOk-weaker c.trace_by.result (Answered (next code.policy) before at new status.Ok) (Answered (plan next) told old new status.Ok)
    (λ t a. answered_behind plan told before old at new status.Ok t next code.policy code.goes_on c.in_ok-code.ensures.same c.in_ok-code.ensures.quiet a)
    (c.trace_by.ensures.answered code.policy.walk code.does)

pub returns-clause-stopped : goal.returns-clause-stopped
returns-clause-stopped g c =
    let told = g.S.Shelf.told c.args.shelf.now in
    let before = g.S.Shelf.told c.take_source.new.shelf in
    let old = g.S.Shelf.faults c.args.shelf.now in
    let at = g.S.Shelf.faults c.take_source.new.shelf in
    let new = g.S.Shelf.faults c.trace_by.new.shelf in
    let code = c.in_ok-code.ensures.code in
    let next : Policy → Plan = λ policy. conns_part c.args.site.now policy.walk c.args.conns_name.now c.args.packets_name.now in
    let plan : (Policy → Plan) → Plan = source_plan c.args.lang c.args.site.now c.args.file_name.now in
    IfErr-weaker c.trace_by.result (Stopped (next code.policy) before at new) (Stopped (plan next) told old new)
    (λ stop s. stopped_behind plan told before old at new stop next code.policy code.goes_on c.in_ok-code.ensures.same c.in_ok-code.ensures.quiet s)
    (c.trace_by.ensures.stopped code.policy.walk)
