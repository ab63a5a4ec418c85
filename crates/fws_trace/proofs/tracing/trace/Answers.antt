use Rattle.std.proofs.Common.{get_or, ◌∙◌}
use Rattle.fws_net.specs.declared.packet.Packet.{Packet}
use Rattle.fws_net.specs.Connections.{tuple_of}
use Rattle.fws_trace.specs.Outcomes.{outcome_by}
use Rattle.fws_trace.proofs.Walked.{next_line}
use Rattle.fws_trace.proofs.tracing.trace.Goals as goal

pub loop-p-preserved : goal.loop-p-preserved
loop-p-preserved c =
    let other : Packet = record { entry = 0; proto = 0; dst = 0; dport = 0; src = 0; sport = 0; flags = 0; icmp = 0 } in
    let conns = c.args.conns.now in
    let packets = c.args.packets.now in
    let k = c.loop-p.p-index in
    let class = c.class.ensures ∙ c.in_ok-classes.ensures (tuple_of (get_or packets k other)) in
    record {
      text = next_line (outcome_by c.args.t.now) conns packets k other c.loop-p.out c.put_packet.new.out c.class.result c.loop-p-test.true
          c.loop-p.invariant.text class c.in_ok-put_packet.ensures.text;
      walked = λ walk fresh est. next_line walk conns packets k other c.loop-p.out c.put_packet.new.out c.class.result c.loop-p-test.true
          (c.loop-p.invariant.walked walk fresh est) class (c.in_ok-put_packet.ensures.walked walk fresh est);
    }
