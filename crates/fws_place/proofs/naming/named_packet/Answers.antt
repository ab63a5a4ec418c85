use Rattle.std.proofs.Common.{ℕ, None, List, sym, subst}
use Rattle.std.proofs.lemmas.Option.{MatchOption-at_none, MatchOption-at_some}
use Rattle.fws_box.specs.Sides.{IsWithin}
use Rattle.fws_net.specs.declared.packet.Packet.{Packet}
use Rattle.fws_place.specs.Asked.{IsNamedPacket}
use Rattle.fws_place.specs.Found.{IsTrueAt, IsTrueNowhere}
use Rattle.fws_place.proofs.Finding.{no_pair}
use Rattle.fws_place.proofs.NewPackets.{packet_named}
use Rattle.fws_place.proofs.naming.named_packet.Goals as goal

pub returns-in-None : goal.returns-in-None
returns-in-None c =
    let tree = c.args.tree.now in
    no_pair c.args.site.now tree c.requires.tops (MatchOption-at_none (IsTrueNowhere tree.0 tree.1) (IsTrueAt tree.0 tree.1) c.in-None.is c.in_ok-point.ensures)

pub returns-in-Some : goal.returns-in-Some
returns-in-Some c =
    let site = c.args.site.now in
    let tree = c.args.tree.now in
    let q : List ℕ = c.in-Some.point in
    let at : IsTrueAt tree.0 tree.1 q = MatchOption-at_some (IsTrueNowhere tree.0 tree.1) (IsTrueAt tree.0 tree.1) q c.in-Some.is c.in_ok-point.ensures in
    let named : Packet → Type 0 = λ p. IsNamedPacket site tree.1 (record { packet = p; rec = None }, None) in
    subst named (sym c.packet_at-packet.ensures)
    (packet_named site tree q (subst (λ (ts : List ℕ). IsWithin ts q) c.requires.tops at.0) at.1)
