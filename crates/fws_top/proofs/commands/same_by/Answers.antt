use Rattle.std.proofs.Common.{rules}
use Rattle.fws_top.specs.Judged.{Policy}
use Rattle.fws_top.specs.Plan.{Plan, shows, source_plan}
use Rattle.fws_top.specs.Tables.{comparison}
use Rattle.fws_top.proofs.AnsweredCommands.{comparison_shown, step_stops}
use Rattle.fws_top.proofs.commands.same_by.Goals as goal

pub returns-in_err-other-clause-stopped : goal.returns-in_err-other-clause-stopped
returns-in_err-other-clause-stopped g c = λ walk.
    let shown : Policy → Plan = λ policy. shows (comparison c.args.site.now walk policy.walk) in
    let stops = step_stops (source_plan c.args.other_lang c.args.site.now c.args.other_name.now) (g.S.Shelf.told c.args.shelf.now) (g.S.Shelf.faults c.args.shelf.now)
    (g.S.Shelf.faults c.take_source.new.shelf) c.in_err-other.field-0.0 shown c.in_err-other.ensures.stopped in
    search (rules, stops)

pub compared-requires-clause-other_regular : goal.compared-requires-clause-other_regular
compared-requires-clause-other_regular g c =
    let code = c.in_ok-other.ensures.code in
    (code.policy.walk, code.does, code.regular)

pub returns-clause-answered : goal.returns-clause-answered
returns-clause-answered g c = λ walk does.
    comparison_shown c.args.other_lang c.args.other_name.now c.args.site.now walk c.in_ok-other.other (g.S.Shelf.told c.args.shelf.now) (g.S.Shelf.faults c.args.shelf.now)
    (g.S.Shelf.faults c.take_source.new.shelf) c.in_ok-compared.field-0 c.in_ok-other.ensures.code c.in_ok-other.ensures.quiet
    (λ second other_does. c.in_ok-compared.ensures walk second does other_does)
