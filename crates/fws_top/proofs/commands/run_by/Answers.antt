use Rattle.std.proofs.Common.{List, ap, ◌∙◌, rules}
use Rattle.fws_events.specs.declared.events.Event.{Event}
use Rattle.fws_events.specs.RunText.{run_text}
use Rattle.fws_top.specs.declared.status.Status.TheVariants as status
use Rattle.fws_top.specs.Plan.{Plan, says, events_plan}
use Rattle.fws_top.proofs.AnsweredCommands.{step_stops, run_said}
use Rattle.fws_top.proofs.commands.run_by.Goals as goal

pub returns-in_err-events-clause-stopped : goal.returns-in_err-events-clause-stopped
returns-in_err-events-clause-stopped g c = λ walk.
    let ran : List Event → Plan = λ given. says status.Ok (run_text c.args.code.now.tracks walk given) in
    let stops = step_stops (events_plan c.args.site.now c.args.events_name.now) (g.S.Shelf.told c.args.shelf.now) (g.S.Shelf.faults c.args.shelf.now)
    (g.S.Shelf.faults c.take_events.new.shelf) c.in_err-events.field-0.0 ran c.in_err-events.ensures.stopped in
    search (rules, stops)

pub returns-clause-answered : goal.returns-clause-answered
returns-clause-answered g c = λ walk does.
    run_said c.args.events_name.now c.args.site.now c.args.code.now.tracks walk c.in_ok-events.events.items (g.S.Shelf.told c.args.shelf.now) (g.S.Shelf.faults c.args.shelf.now)
    (g.S.Shelf.faults c.take_events.new.shelf) c.in_ok-replayed.field-0 c.in_ok-events.ensures.goes_on c.in_ok-events.ensures.quiet
    (c.in_ok-replayed.ensures walk does ∙ ap (λ (es : List Event). run_text c.args.code.now.tracks walk es) c.as_slice.ensures.value)
