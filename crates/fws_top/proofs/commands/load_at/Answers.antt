use Rattle.std.proofs.Common.{rules}
use Rattle.fws_top.proofs.AnsweredCommands.{load_shown, load_text_stops}
use Rattle.fws_top.proofs.commands.load_at.Goals as goal

pub returns-in_err-code-clause-stopped : goal.returns-in_err-code-clause-stopped
returns-in_err-code-clause-stopped c = λ told faults.
    let stops = load_text_stops c.args.n c.args.site.now told faults c.in_err-code.field-0.0 c.in_err-code.ensures.refused in
    search (rules, stops)

pub returns-clause-answered : goal.returns-clause-answered
returns-clause-answered c = λ told faults.
    load_shown c.args.n c.args.site.now c.in_ok-code.code told faults c.in_ok-loaded.field-0 c.in_ok-code.ensures.code c.in_ok-loaded.ensures
