use Rattle.std.proofs.Common.{Option, MatchOption}
use Rattle.std.proofs.lemmas.Result.{IfOk-weaker}
use Rattle.fws_place.specs.declared.breach.Pair.{Pair}
use Rattle.fws_place.specs.Asked.{IsNamedPacket, IsSoughtPacket}
use Rattle.fws_place.specs.Crossing.{IsWrittenElsewhere}
use Rattle.fws_place.specs.Found.{IsTrueAtNoPair}
use Rattle.fws_place.proofs.NewPackets.{sought_packet}
use Rattle.fws_place.proofs.writes_inside_out.written_outside.Goals as goal

pub returns : goal.returns
returns c =
    let site = c.args.site.now in
    let tables = c.args.tables.now in
    let t = c.in_ok-elsewhere.elsewhere in
    let P : Option (Pair × Option Pair) → Type 0 = λ found. MatchOption found (IsTrueAtNoPair site t.1) (IsNamedPacket site t.1) in
    let Q : Option (Pair × Option Pair) → Type 0 = IsSoughtPacket site (IsWrittenElsewhere site tables) in
    IfOk-weaker c.named_packet.result P Q (sought_packet site (IsWrittenElsewhere site tables) t.1 c.in_ok-elsewhere.ensures.tells) c.named_packet.ensures
