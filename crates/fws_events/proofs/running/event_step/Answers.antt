use Rattle.std.proofs.Common.{◌≡◌, None, IfOk, sym, subst}
use Rattle.fws_events.specs.declared.events.Event.{Event}
use Rattle.fws_events.specs.Runs.{answer_to, appended_by, conns_behind, IsEventOf, IsMet}
use Rattle.fws_trace.specs.Outcomes.{outcome_by}
use Rattle.fws_events.proofs.running.event_step.Goals as goal

pub packet_step-requires-clause-of_site : goal.packet_step-requires-clause-of_site
packet_step-requires-clause-of_site c = subst (λ (e : Event). IsEventOf c.args.site.now e) c.in-Packet.is c.requires.of_site

pub returns-in-Packet-clause-met : goal.returns-in-Packet-clause-met
returns-in-Packet-clause-met c = subst (λ (e : Event). IsMet c.args.site.now c.args.conns.now e) (sym c.in-Packet.is) c.packet_step.ensures.met

pub returns-in-Expire-clause-met : goal.returns-in-Expire-clause-met
returns-in-Expire-clause-met c = subst (λ (e : Event). IsMet c.args.site.now c.args.conns.now e) (sym c.in-Expire.is) tt

pub returns-in-Packet-clause-given : goal.returns-in-Packet-clause-given
returns-in-Packet-clause-given c walk gives =
    subst (λ (e : Event). IfOk c.packet_step.result (λ answer. (answer ≡ answer_to walk c.args.conns.now e) × (c.packet_step.new.conns ≡ conns_behind c.args.tracks walk c.args.conns.now e)))
    (sym c.in-Packet.is) (c.packet_step.ensures.given walk gives)

pub returns-in-Packet-clause-succeeds : goal.returns-in-Packet-clause-succeeds
returns-in-Packet-clause-succeeds c none =
    c.packet_step.ensures.succeeds (subst (λ (e : Event). appended_by c.args.tracks (outcome_by c.args.t.now) c.args.conns.now e ≡ None) c.in-Packet.is none)

pub returns-in-Expire-clause-given : goal.returns-in-Expire-clause-given
returns-in-Expire-clause-given c walk gives =
    subst (λ (e : Event). (c.expiry_step.result ≡ answer_to walk c.args.conns.now e) × (c.expiry_step.new.conns ≡ conns_behind c.args.tracks walk c.args.conns.now e))
    (sym c.in-Expire.is) (c.expiry_step.ensures.answer walk, c.expiry_step.ensures.taken)
