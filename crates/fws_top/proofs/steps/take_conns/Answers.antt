use Rattle.std.proofs.Common.{rules}
use Rattle.fws_trace.specs.ConnectionText.{conns_of}
use Rattle.fws_top.specs.Plan.{listed}
use Rattle.fws_top.proofs.Chosen.{judged_goes_on, judged_stops, stopped_file}
use Rattle.fws_top.proofs.steps.take_conns.Goals as goal

pub returns-in_err-bytes-clause-stopped : goal.returns-in_err-bytes-clause-stopped
returns-in_err-bytes-clause-stopped g c =
    let stops = stopped_file c.args.name.now (g.S.Shelf.told c.args.shelf.now) (λ b. listed c.args.name.now (conns_of b))
    (g.S.Shelf.faults c.args.shelf.now) (g.S.Shelf.faults c.take.new.shelf) c.in_err-bytes.field-0.0 c.in_err-bytes.ensures.stopped in
    search (rules, stops)

pub returns-clause-stopped : goal.returns-clause-stopped
returns-clause-stopped g c =
    judged_stops c.args.name.now c.in_ok-bytes.bytes c.as_slice.result.now (g.S.Shelf.told c.args.shelf.now) (λ b. listed c.args.name.now (conns_of b))
    (g.S.Shelf.faults c.args.shelf.now) (g.S.Shelf.faults c.take.new.shelf) c.judge_conns.result
    c.as_slice.ensures c.in_ok-bytes.ensures.goes_on c.in_ok-bytes.ensures.quiet c.judge_conns.ensures.refused

pub returns-clause-goes_on : goal.returns-clause-goes_on
returns-clause-goes_on g c =
    judged_goes_on c.args.name.now c.in_ok-bytes.bytes c.as_slice.result.now (g.S.Shelf.told c.args.shelf.now) (λ b. listed c.args.name.now (conns_of b)) c.judge_conns.result (λ conns. conns.items)
    c.as_slice.ensures c.in_ok-bytes.ensures.goes_on c.judge_conns.ensures.chooses
