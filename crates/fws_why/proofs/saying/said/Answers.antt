use Rattle.std.proofs.Common.{get_or, ◌∙◌}
use Rattle.fws_flat.specs.Walk.{means}
use Rattle.fws_net.specs.declared.packet.Packet.{Packet}
use Rattle.fws_net.specs.Connections.{tuple_of}
use Rattle.fws_why.specs.Walked.{used_of}
use Rattle.fws_why.proofs.Said.{next_packet}
use Rattle.fws_why.proofs.saying.said.Goals as goal

pub loop-p-preserved : goal.loop-p-preserved
loop-p-preserved c spots are =
    let other : Packet = record { entry = 0; proto = 0; dst = 0; dport = 0; src = 0; sport = 0; flags = 0; icmp = 0 } in
    let g = c.args.ground.now in
    let packets = c.args.packets.now in
    let i = c.loop-p.p-index in
    next_packet (means g.code.now g.site.now) (used_of g.code.now g.from.now spots g.site.now) g.labels.now c.args.conns.now packets i other c.loop-p.out
    c.put_packet.new.out c.class.result c.loop-p-test.true (c.loop-p.invariant spots are) (c.class.ensures ∙ c.in_ok-classes.ensures (tuple_of (get_or packets i other)))
    (c.in_ok-put_packet.ensures spots are)
