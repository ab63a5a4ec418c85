use Rattle.std.proofs.Common.{Option, MatchOption}
use Rattle.std.proofs.lemmas.Result.{IfOk-weaker}
use Rattle.fws_place.specs.declared.breach.Pair.{Pair}
use Rattle.fws_place.specs.Asked.{passes, IsNamedPacket, IsSoughtPacket}
use Rattle.fws_place.specs.Clauses.{IsAcceptedWith}
use Rattle.fws_place.specs.Found.{IsTrueAtNoPair}
use Rattle.fws_place.proofs.NewPackets.{sought_packet}
use Rattle.fws_place.proofs.asking.packet_with.Goals as goal

pub returns : goal.returns
returns c =
    let site = c.args.site.now in
    let tables = c.args.tables.now in
    let t = c.in_ok-tree.tree in
    let P : Option (Pair × Option Pair) → Type 0 = λ found. MatchOption found (IsTrueAtNoPair site t.1) (IsNamedPacket site t.1) in
    let Q : Option (Pair × Option Pair) → Type 0 = IsSoughtPacket site (IsAcceptedWith tables (passes c.args.asked)) in
    IfOk-weaker c.named_packet.result P Q (sought_packet site (IsAcceptedWith tables (passes c.args.asked)) t.1 c.in_ok-tree.ensures.tells) c.named_packet.ensures
