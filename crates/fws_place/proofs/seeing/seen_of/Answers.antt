use Rattle.fws_place.proofs.Viewing.{alike_told, projected_by, somewhere_told}
use Rattle.fws_place.proofs.seeing.seen_of.Goals as goal

pub returns-clause-packet : goal.returns-clause-packet
returns-clause-packet c =
    let a = c.args.accepted.now in
    somewhere_told c.args.site.now c.args.tables.now a.1 c.in_ok-packet.packet.1 c.requires.tells
    (projected_by c.args.site.now 3840 a c.in_ok-packet.packet.1 c.requires.tops c.in_ok-packet.ensures.value)

pub returns-clause-behind : goal.returns-clause-behind
returns-clause-behind c =
    let a = c.args.accepted.now in
    alike_told c.args.site.now c.args.tables.now a.1 c.in_ok-behind.behind.1 c.requires.tells
    (projected_by c.args.site.now 3084 a c.in_ok-behind.behind.1 c.requires.tops c.in_ok-behind.ensures.value)
