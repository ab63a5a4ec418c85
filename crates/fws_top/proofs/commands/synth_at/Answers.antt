use Rattle.std.proofs.Common.{rules}
use Rattle.fws_top.specs.Judged.{Policy}
use Rattle.fws_top.specs.Plan.{Plan, shows, source_plan}
use Rattle.fws_top.specs.Tables.{table}
use Rattle.fws_top.proofs.AnsweredCommands.{step_stops, table_shown}
use Rattle.fws_top.proofs.commands.synth_at.Goals as goal

pub returns-in_err-code-clause-stopped : goal.returns-in_err-code-clause-stopped
returns-in_err-code-clause-stopped g c =
    let shown : Policy → Plan = λ policy. shows (table c.args.site.now c.args.state policy.walk) in
    let stops = step_stops (source_plan c.args.lang c.args.site.now c.args.file_name.now) (g.S.Shelf.told c.args.shelf.now) (g.S.Shelf.faults c.args.shelf.now)
    (g.S.Shelf.faults c.take_source.new.shelf) c.in_err-code.field-0.0 shown c.in_err-code.ensures.stopped in
    search (rules, stops)

pub returns-clause-answered : goal.returns-clause-answered
returns-clause-answered g c =
    table_shown c.args.lang c.args.file_name.now c.args.site.now c.args.state c.in_ok-code.code (g.S.Shelf.told c.args.shelf.now) (g.S.Shelf.faults c.args.shelf.now)
    (g.S.Shelf.faults c.take_source.new.shelf) c.in_ok-table.field-0 c.in_ok-code.ensures.code c.in_ok-code.ensures.quiet c.in_ok-table.ensures
