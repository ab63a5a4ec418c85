use Rattle.std.proofs.Common.{rules}
use Rattle.fws_top.proofs.AnsweredCommands.{asked_source_stops, asked_table_shown, asks_stop}
use Rattle.fws_top.proofs.commands.query_at.Goals as goal

pub returns-in_err-know_entries-clause-stopped : goal.returns-in_err-know_entries-clause-stopped
returns-in_err-know_entries-clause-stopped g c =
    let stops = asks_stop c.args.lang c.args.file_name.now c.args.site.now c.args.state c.args.asks.now (g.S.Shelf.told c.args.shelf.now) (g.S.Shelf.faults c.args.shelf.now)
    c.in_err-know_entries.field-0.0 c.in_err-know_entries.ensures.unknown in
    search (rules, stops)

pub returns-in_err-code-clause-stopped : goal.returns-in_err-code-clause-stopped
returns-in_err-code-clause-stopped g c =
    let stops = asked_source_stops c.args.lang c.args.file_name.now c.args.site.now c.args.state c.args.asks.now (g.S.Shelf.told c.args.shelf.now) (g.S.Shelf.faults c.args.shelf.now)
    (g.S.Shelf.faults c.take_source.new.shelf) c.in_err-code.field-0.0 c.in_ok-know_entries.ensures.known c.in_err-code.ensures.stopped in
    search (rules, stops)

pub returns-clause-answered : goal.returns-clause-answered
returns-clause-answered g c =
    asked_table_shown c.args.lang c.args.file_name.now c.args.site.now c.args.state c.args.asks.now c.in_ok-code.code (g.S.Shelf.told c.args.shelf.now)
    (g.S.Shelf.faults c.args.shelf.now) (g.S.Shelf.faults c.take_source.new.shelf) c.in_ok-asked_table.field-0
    c.in_ok-know_entries.ensures.known c.in_ok-code.ensures.code c.in_ok-code.ensures.quiet c.in_ok-asked_table.ensures
