use Rattle.std.proofs.Common.{◌≡◌, take}
use Rattle.fws_net.specs.declared.connection.Kind.{Kind}
use Rattle.fws_net.specs.declared.outcome.Outcome.{Outcome}
use Rattle.fws_net.specs.declared.packet.Packet.{Packet}
use Rattle.fws_net.specs.declared.packet.State.TheVariants.{Fresh, Est}
use Rattle.fws_trace.specs.Outcomes.{outcome_by, IsWalked}
use Rattle.fws_trace.specs.TraceText.{trace_text}
use Rattle.fws_trace.proofs.tracing.trace.Given as goal

abbrev pub invariant-loop-p : goal.invariant-loop-p
invariant-loop-p l = record {
  text : l.out ≡ trace_text (outcome_by l.t) l.conns (take l.p-index l.packets);
  walked : (walk : Packet → Kind → Outcome) → IsWalked l.site Fresh walk l.t.fresh.1 → IsWalked l.site Est walk l.t.est.1 → l.out ≡ trace_text walk l.conns (take l.p-index l.packets);
}
