use Rattle.std.proofs.Common.{List, ap, ◌∙◌, rules}
use Rattle.fws_net.specs.declared.packet.Packet.{Packet}
use Rattle.fws_top.specs.declared.status.Status.TheVariants as status
use Rattle.fws_top.specs.Plan.{Plan, says, packets_plan}
use Rattle.fws_top.proofs.AnsweredCommands.{step_stops, why_said}
use Rattle.fws_top.proofs.commands.why_among.Goals as goal
use Rattle.fws_why.specs.WhyText.{why_text}

pub returns-in_err-packets-clause-stopped : goal.returns-in_err-packets-clause-stopped
returns-in_err-packets-clause-stopped g c = λ policy.
    let said : List Packet → Plan = λ sent. says status.Ok (why_text policy.walk policy.used policy.labels c.args.conns.now sent) in
    let stops = step_stops (packets_plan c.args.site.now c.args.packets_name.now) (g.S.Shelf.told c.args.shelf.now) (g.S.Shelf.faults c.args.shelf.now)
    (g.S.Shelf.faults c.take_packets.new.shelf) c.in_err-packets.field-0.0 said c.in_err-packets.ensures.stopped in
    search (rules, stops)

pub returns-clause-answered : goal.returns-clause-answered
returns-clause-answered g c = λ policy told.
    why_said c.args.packets_name.now c.args.site.now policy c.args.conns.now c.in_ok-packets.packets.items (g.S.Shelf.told c.args.shelf.now) (g.S.Shelf.faults c.args.shelf.now)
    (g.S.Shelf.faults c.take_packets.new.shelf) c.in_ok-explained.field-0 c.in_ok-packets.ensures.goes_on c.in_ok-packets.ensures.quiet
    (c.in_ok-explained.ensures policy told ∙ ap (λ (ps : List Packet). why_text policy.walk policy.used policy.labels c.args.conns.now ps) c.as_slice.ensures.value)
