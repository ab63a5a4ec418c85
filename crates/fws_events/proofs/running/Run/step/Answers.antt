use Rattle.std.proofs.Common.{◌≡◌}
use Rattle.fws_events.specs.declared.events.Answer.{Answer}
use Rattle.fws_events.specs.Runs.{answer_to, conns_behind}
use Rattle.fws_trace.specs.Outcomes.{outcome_by}
use Rattle.fws_events.proofs.Fated.{by_tables, by_walk, of_answer, of_list}
use Rattle.fws_events.proofs.running.Run.step.Goals as goal

pub returns-clause-answer : goal.returns-clause-answer
returns-clause-answer c =
    let t = c.args.self.now.t.now in
    let conns = c.args.self.now.conns in
    of_answer c.event_step.result (λ (a : Answer). a ≡ answer_to (outcome_by t) conns c.args.e.now)
    (c.event_step.new.conns ≡ conns_behind c.args.self.now.tracks (outcome_by t) conns c.args.e.now)
    (c.event_step.ensures.given (outcome_by t) (by_tables c.args.self.now.site.now t))

pub returns-clause-conns : goal.returns-clause-conns
returns-clause-conns c =
    let t = c.args.self.now.t.now in
    let conns = c.args.self.now.conns in
    of_list c.event_step.result (λ (a : Answer). a ≡ answer_to (outcome_by t) conns c.args.e.now)
    (c.event_step.new.conns ≡ conns_behind c.args.self.now.tracks (outcome_by t) conns c.args.e.now)
    (c.event_step.ensures.given (outcome_by t) (by_tables c.args.self.now.site.now t))

pub returns-clause-fated : goal.returns-clause-fated
returns-clause-fated c = c.event_step.ensures.given

pub returns-clause-walked : goal.returns-clause-walked
returns-clause-walked c walk fresh est = c.event_step.ensures.given walk (by_walk c.args.self.now.site.now c.args.self.now.t.now walk fresh est)
