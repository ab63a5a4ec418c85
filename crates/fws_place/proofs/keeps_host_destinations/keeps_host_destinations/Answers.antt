use Rattle.std.proofs.Common.{◌≡◌, true, Option, MatchOption}
use Rattle.std.proofs.lemmas.Result.{IfOk-weaker}
use Rattle.fws_net.specs.declared.packet.Packet.{Packet}
use Rattle.fws_place.specs.declared.breach.Pair.{Pair}
use Rattle.fws_place.specs.declared.clause.Clause.TheVariants.{KeepsHostDestinations}
use Rattle.fws_place.specs.Asked.{IsNamedPacket}
use Rattle.fws_place.specs.Clauses.{IsAcceptedWith}
use Rattle.fws_place.specs.Found.{IsSought, IsTrueAtNoPair}
use Rattle.fws_place.specs.Pairs.{is_host}
use Rattle.fws_place.specs.Rewritings.{writes_destination}
use Rattle.fws_place.proofs.NewPackets.{sought_packet}
use Rattle.fws_place.proofs.keeps_host_destinations.keeps_host_destinations.Goals as goal

pub returns : goal.returns
returns c =
    let site = c.args.site.now in
    let tables = c.args.tables.now in
    let t = c.in_ok-tree.tree in
    let P : Option (Pair × Option Pair) → Type 0 = λ found. MatchOption found (IsTrueAtNoPair site t.1) (IsNamedPacket site t.1) in
    let Q : Option (Pair × Option Pair) → Type 0 = IsSought site tables KeepsHostDestinations in
    let Such : Packet → Type 0 = λ p. (is_host p ≡ true) × IsAcceptedWith tables writes_destination p in
    IfOk-weaker c.named_packet.result P Q (sought_packet site Such t.1 c.in_ok-tree.ensures.tells) c.named_packet.ensures
