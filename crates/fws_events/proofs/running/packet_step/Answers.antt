use Rattle.std.proofs.Common.{Option, ◌∙◌, ap}
use Rattle.fws_events.specs.Runs.{with_conn}
use Rattle.fws_net.specs.declared.connection.Conn.{Conn}
use Rattle.fws_trace.specs.Outcomes.{outcome_by}
use Rattle.fws_events.proofs.Fated.{by_tables}
use Rattle.fws_events.proofs.running.packet_step.Goals as goal

pub returns-in_err-put_conn-clause-succeeds : goal.returns-in_err-put_conn-clause-succeeds
returns-in_err-put_conn-clause-succeeds c none =
    let h = c.in_err-put_conn.ensures.succeeds ((c.judged-answer.ensures.given (outcome_by c.args.t.now) (by_tables c.args.site.now c.args.t.now)).1 ∙ none) in
    absurd (cc)

pub returns-clause-given : goal.returns-clause-given
returns-clause-given c walk gives =
    let h = c.judged-answer.ensures.given walk gives in
    (h.0, c.in_ok-put_conn.ensures.put ∙ ap (λ (o : Option Conn). with_conn c.args.conns.now o) h.1)
