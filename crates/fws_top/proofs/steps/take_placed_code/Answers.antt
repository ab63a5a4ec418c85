use Rattle.std.proofs.Common.{rules}
use Rattle.fws_top.specs.Judged.{judge}
use Rattle.fws_top.specs.Plan.{judged}
use Rattle.fws_top.proofs.Chosen.{judged_stops, stopped_file}
use Rattle.fws_top.proofs.Taken.{taken_placed_code}
use Rattle.fws_top.proofs.steps.take_placed_code.Goals as goal

pub returns-in_err-bytes-clause-stopped : goal.returns-in_err-bytes-clause-stopped
returns-in_err-bytes-clause-stopped g c =
    let stops = stopped_file c.args.name.now (g.S.Shelf.told c.args.shelf.now) (λ b. judged c.args.name.now (judge c.args.lang c.args.site.now b))
    (g.S.Shelf.faults c.args.shelf.now) (g.S.Shelf.faults c.take.new.shelf) c.in_err-bytes.field-0.0 c.in_err-bytes.ensures.stopped in
    search (rules, stops)

pub returns-clause-stopped : goal.returns-clause-stopped
returns-clause-stopped g c =
    judged_stops c.args.name.now c.in_ok-bytes.bytes c.as_slice.result.now (g.S.Shelf.told c.args.shelf.now) (λ b. judged c.args.name.now (judge c.args.lang c.args.site.now b))
    (g.S.Shelf.faults c.args.shelf.now) (g.S.Shelf.faults c.take.new.shelf) c.judge_placed_code.result
    c.as_slice.ensures c.in_ok-bytes.ensures.goes_on c.in_ok-bytes.ensures.quiet c.judge_placed_code.ensures.refused

pub returns-clause-code : goal.returns-clause-code
returns-clause-code g c =
    taken_placed_code c.args.lang c.args.name.now c.in_ok-bytes.bytes c.as_slice.result.now c.args.site.now (g.S.Shelf.told c.args.shelf.now) c.judge_placed_code.result
    c.as_slice.ensures c.in_ok-bytes.ensures.goes_on c.judge_placed_code.ensures.code
