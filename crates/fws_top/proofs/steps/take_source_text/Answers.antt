use Rattle.std.proofs.Common.{rules}
use Rattle.fws_top.specs.Judged.{judge}
use Rattle.fws_top.specs.Plan.{judged}
use Rattle.fws_top.proofs.Chosen.{chosen, ended, stopped_file}
use Rattle.fws_top.proofs.steps.take_source_text.Goals as goal

pub returns-in_err-bytes-clause-stopped : goal.returns-in_err-bytes-clause-stopped
returns-in_err-bytes-clause-stopped g c =
    let stops = stopped_file c.args.name.now (g.S.Shelf.told c.args.shelf.now) (λ b. judged c.args.name.now (judge c.args.lang c.args.site.now b))
    (g.S.Shelf.faults c.args.shelf.now) (g.S.Shelf.faults c.take.new.shelf) c.in_err-bytes.field-0.0 c.in_err-bytes.ensures.stopped in
    search (rules, stops)

pub returns-in_err-code-clause-stopped : goal.returns-in_err-code-clause-stopped
returns-in_err-code-clause-stopped g c =
    let ends = ended c.args.name.now c.in_ok-bytes.bytes c.as_slice.result.now (g.S.Shelf.told c.args.shelf.now) (λ b. judged c.args.name.now (judge c.args.lang c.args.site.now b))
    (g.S.Shelf.faults c.args.shelf.now) (g.S.Shelf.faults c.take.new.shelf) c.in_err-code.field-0.0
    c.as_slice.ensures c.in_ok-bytes.ensures.goes_on c.in_ok-bytes.ensures.quiet c.in_err-code.ensures.refused in
    search (rules, ends)

pub returns-clause-code : goal.returns-clause-code
returns-clause-code g c =
    let code = c.in_ok-code.ensures.code in
    record {
      ok = code.ok;
      policy = code.policy;
      regular = code.regular;
      does = code.does;
      tracks = code.tracks;
      goes_on = chosen c.args.name.now c.in_ok-bytes.bytes c.as_slice.result.now (g.S.Shelf.told c.args.shelf.now) (λ b. judged c.args.name.now (judge c.args.lang c.args.site.now b)) code.policy
          c.as_slice.ensures c.in_ok-bytes.ensures.goes_on code.chooses;
    }
