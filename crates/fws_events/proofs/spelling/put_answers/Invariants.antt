use Rattle.std.proofs.Common.{◌≡◌, ◌++◌, drop}
use Rattle.fws_events.specs.Runs.{answers_to, conns_behind_all, AreMet, GivesFates}
use Rattle.fws_events.specs.RunText.{answers_text}
use Rattle.fws_net.specs.declared.connection.Kind.{Kind}
use Rattle.fws_net.specs.declared.outcome.Outcome.{Outcome}
use Rattle.fws_net.specs.declared.packet.Packet.{Packet}
use Rattle.fws_trace.specs.Outcomes.{outcome_by}
use Rattle.fws_events.proofs.spelling.put_answers.Given as goal

abbrev pub invariant-loop-e : goal.invariant-loop-e
invariant-loop-e l = record {
  met : AreMet l.site l.tracks (outcome_by l.t) l.conns (drop l.e-index l.events) → AreMet l.site l.tracks (outcome_by l.t) l.fn.conns l.events;
  given : (walk : Packet → Kind → Outcome) → GivesFates l.site l.t walk
      → (l.out ++ answers_text (drop l.e-index l.events) (answers_to l.tracks walk l.conns (drop l.e-index l.events)) ≡ l.fn.out ++ answers_text l.events (answers_to l.tracks walk l.fn.conns l.events))
      × (conns_behind_all l.tracks walk l.conns (drop l.e-index l.events) ≡ conns_behind_all l.tracks walk l.fn.conns l.events);
}
