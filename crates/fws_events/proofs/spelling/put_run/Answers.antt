use Rattle.std.proofs.Common.{List, subst}
use Rattle.fws_events.specs.Runs.{AreMet}
use Rattle.fws_net.specs.declared.connection.Conn.{Conn}
use Rattle.fws_trace.specs.Outcomes.{outcome_by}
use Rattle.fws_events.proofs.Fated.{by_tables, by_walk}
use Rattle.fws_events.proofs.Turns.{whole}
use Rattle.fws_events.proofs.spelling.put_run.Goals as goal

pub returns-clause-fated : goal.returns-clause-fated
returns-clause-fated c walk gives =
    let h = c.in_ok-put_answers.ensures.given walk gives in
    whole c.args.tracks walk c.args.events.now c.new-out.result c.put_answers.new.out c.put_conns.new.out c.none-conns.result c.put_answers.new.conns
    c.new-out.ensures c.none-conns.ensures h.0 h.1
    c.in_ok-put_conns.ensures

pub returns-clause-met : goal.returns-clause-met
returns-clause-met c =
    subst (λ (cs : List Conn). AreMet c.args.site.now c.args.tracks (outcome_by c.args.t.now) cs c.args.events.now) c.none-conns.ensures c.in_ok-put_answers.ensures.met

pub returns-clause-text : goal.returns-clause-text
returns-clause-text c = returns-clause-fated c (outcome_by c.args.t.now) (by_tables c.args.site.now c.args.t.now)

pub returns-clause-walked : goal.returns-clause-walked
returns-clause-walked c walk fresh est = returns-clause-fated c walk (by_walk c.args.site.now c.args.t.now walk fresh est)
