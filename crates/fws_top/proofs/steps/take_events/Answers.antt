use Rattle.std.proofs.Common.{rules}
use Rattle.fws_events.specs.EventText.{events_of}
use Rattle.fws_top.specs.Plan.{listed}
use Rattle.fws_top.proofs.Chosen.{judged_goes_on, judged_stops, stopped_file}
use Rattle.fws_top.proofs.steps.take_events.Goals as goal

pub returns-in_err-bytes-clause-stopped : goal.returns-in_err-bytes-clause-stopped
returns-in_err-bytes-clause-stopped g c =
    let stops = stopped_file c.args.name.now (g.S.Shelf.told c.args.shelf.now) (λ b. listed c.args.name.now (events_of b c.args.site.now))
    (g.S.Shelf.faults c.args.shelf.now) (g.S.Shelf.faults c.take.new.shelf) c.in_err-bytes.field-0.0 c.in_err-bytes.ensures.stopped in
    search (rules, stops)

pub returns-clause-stopped : goal.returns-clause-stopped
returns-clause-stopped g c =
    judged_stops c.args.name.now c.in_ok-bytes.bytes c.as_slice.result.now (g.S.Shelf.told c.args.shelf.now) (λ b. listed c.args.name.now (events_of b c.args.site.now))
    (g.S.Shelf.faults c.args.shelf.now) (g.S.Shelf.faults c.take.new.shelf) c.judge_events.result
    c.as_slice.ensures c.in_ok-bytes.ensures.goes_on c.in_ok-bytes.ensures.quiet c.judge_events.ensures.refused

pub returns-clause-goes_on : goal.returns-clause-goes_on
returns-clause-goes_on g c =
    judged_goes_on c.args.name.now c.in_ok-bytes.bytes c.as_slice.result.now (g.S.Shelf.told c.args.shelf.now) (λ b. listed c.args.name.now (events_of b c.args.site.now)) c.judge_events.result (λ events. events.items)
    c.as_slice.ensures c.in_ok-bytes.ensures.goes_on c.judge_events.ensures.chooses
