use Rattle.std.proofs.Common.{rules}
use Rattle.fws_top.specs.Judged.{Policy}
use Rattle.fws_top.specs.Plan.{Plan, shows, source_plan}
use Rattle.fws_top.specs.Tables.{translation}
use Rattle.fws_top.proofs.AnsweredCommands.{step_stops, translation_shown}
use Rattle.fws_top.proofs.commands.translate_at.Goals as goal

pub returns-in_err-bytes-clause-stopped : goal.returns-in_err-bytes-clause-stopped
returns-in_err-bytes-clause-stopped g c =
    let shown : Policy → Plan = λ policy. shows (translation c.args.to c.args.site.now policy.walk) in
    let stops = step_stops (source_plan c.args.from c.args.site.now c.args.file_name.now) (g.S.Shelf.told c.args.shelf.now) (g.S.Shelf.faults c.args.shelf.now)
    (g.S.Shelf.faults c.take_source_text.new.shelf) c.in_err-bytes.field-0.0 shown c.in_err-bytes.ensures.stopped in
    search (rules, stops)

pub returns-clause-answered : goal.returns-clause-answered
returns-clause-answered g c =
    translation_shown c.args.from c.args.to c.args.file_name.now c.args.site.now c.in_ok-bytes.code (g.S.Shelf.told c.args.shelf.now) (g.S.Shelf.faults c.args.shelf.now)
    (g.S.Shelf.faults c.take_source_text.new.shelf) c.in_ok-translated.field-0.status c.in_ok-translated.field-0.text
    c.in_ok-bytes.ensures.code c.in_ok-bytes.ensures.quiet c.in_ok-translated.ensures
