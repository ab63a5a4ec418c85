use Rattle.std.proofs.Common.{◌+◌, drop, get_or, refl, ◌∙◌}
use Rattle.std.proofs.lemmas.List.{drop_more, drop_all}
use Rattle.fws_events.specs.declared.events.Event.{Event}
use Rattle.fws_events.specs.declared.events.Event.TheVariants as events
use Rattle.fws_trace.specs.Outcomes.{outcome_by}
use Rattle.fws_events.proofs.Fated.{by_tables}
use Rattle.fws_events.proofs.Turns.{turn, ended, one_more, none_more}
use Rattle.fws_events.proofs.spelling.put_answers.Goals as goal

pub loop-e-init : goal.loop-e-init
loop-e-init c = record { met = λ m. m; given = λ walk gives. (refl, refl) }

pub loop-e-preserved : goal.loop-e-preserved
loop-e-preserved c =
    let other : Event = events.Packet (record { entry = 0; proto = 0; dst = 0; dport = 0; src = 0; sport = 0; flags = 0; icmp = 0 }) in
    let site = c.args.site.now in
    let t = c.args.t.now in
    let tracks = c.args.tracks in
    let es = c.args.events.now in
    let k = c.loop-e.e-index in
    let parts = drop_more es k other c.loop-e-test.true in
    record {
      met = λ later. c.loop-e.invariant.met (one_more site t tracks (get_or es k other) (drop (k + 1) es) (drop k es) c.loop-e.conns c.event_step.new.conns parts
          c.event_step.ensures.met (c.in_ok-answer.ensures.given (outcome_by t) (by_tables site t)).1 later);
      given = λ walk gives.
          let h = c.loop-e.invariant.given walk gives in
          let s = c.in_ok-answer.ensures.given walk gives in
          let more = turn tracks walk (get_or es k other) (drop (k + 1) es) (drop k es) c.loop-e.out c.put_answer.new.out c.loop-e.conns c.event_step.new.conns _
          parts c.in_ok-put_answer.ensures s.0 s.1 in
          (more.0 ∙ h.0, more.1 ∙ h.1);
    }

pub returns-clause-met : goal.returns-clause-met
returns-clause-met c = c.loop-e.invariant.met
    (none_more c.args.site.now c.args.t.now c.args.tracks (drop c.loop-e.e-index c.args.events.now) c.loop-e.conns
    (drop_all c.loop-e.e-index c.args.events.now c.loop-e-test.false))

pub returns-clause-given : goal.returns-clause-given
returns-clause-given c walk gives = ended c.args.tracks walk (drop c.loop-e.e-index c.args.events.now) c.loop-e.out _ c.loop-e.conns _
    (drop_all c.loop-e.e-index c.args.events.now c.loop-e-test.false) (c.loop-e.invariant.given walk gives)
