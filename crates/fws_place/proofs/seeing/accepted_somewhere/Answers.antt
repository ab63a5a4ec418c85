use Rattle.fws_place.proofs.Viewing.{projected_by, somewhere_told}
use Rattle.fws_place.proofs.seeing.accepted_somewhere.Goals as goal

pub returns-clause-tells : goal.returns-clause-tells
returns-clause-tells c =
    let a = c.in_ok-accepted.accepted in
    somewhere_told c.args.site.now c.args.tables.now a.1 c.in_ok-packet.packet.1 c.in_ok-accepted.ensures.tells
    (projected_by c.args.site.now 3840 a c.in_ok-packet.packet.1 c.in_ok-accepted.ensures.tops c.in_ok-packet.ensures.value)
