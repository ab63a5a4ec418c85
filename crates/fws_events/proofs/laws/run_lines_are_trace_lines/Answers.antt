use Rattle.std.proofs.Common.{◌≡◌, refl}
use Rattle.fws_events.specs.declared.events.Event.TheVariants as events
use Rattle.fws_events.specs.Runs.{class_against, fate_against, answer_of}
use Rattle.fws_events.specs.RunText.{answer_text}
use Rattle.fws_net.specs.declared.connection.Kind.{Kind}
use Rattle.fws_net.specs.declared.connection.Kind.TheVariants.{New, Est}
use Rattle.fws_net.specs.declared.outcome.Fate.{Fate}
use Rattle.fws_net.specs.declared.packet.Packet.{Packet}
use Rattle.fws_trace.specs.TraceText.{line_text}
use Rattle.fws_events.proofs.laws.run_lines_are_trace_lines.Goals as goal

by_class : (p : Packet) (k : Kind) (fate : Fate) → answer_text (events.Packet p) (answer_of k fate) ≡ line_text p k fate
by_class p New fate = refl
by_class p (Est r) fate = refl

pub returns : goal.returns
returns c walk conns p = by_class p (class_against conns p) (fate_against walk conns p)
