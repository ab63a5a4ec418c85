use Rattle.std.proofs.Common.{Option, MatchOption, subst}
use Rattle.std.proofs.lemmas.Result.{IfOk-weaker}
use Rattle.fws_place.specs.declared.breach.Pair.{Pair}
use Rattle.fws_place.specs.declared.clause.Clause.TheVariants.{PassesHost}
use Rattle.fws_place.specs.Asked.{IsSoughtPacket}
use Rattle.fws_place.specs.Clauses.{BreaksHost, BreaksHostEstablished}
use Rattle.fws_place.specs.Found.{IsNamedPair, IsSought, IsTrueAtNoPair}
use Rattle.fws_place.proofs.HostPasses.{found_new, found_pair}
use Rattle.fws_place.proofs.NamedPairs.{sought_pair}
use Rattle.fws_place.proofs.NewPackets.{sought_packet}
use Rattle.fws_place.proofs.passes_host.changed_or_dropped.Goals as goal

pub returns-in-Some : goal.returns-in-Some
returns-in-Some c =
    let site = c.args.site.now in
    let tables = c.args.tables.now in
    let n = c.args.changed.now in
    let first : IsSoughtPacket site (BreaksHost tables) c.in_ok-found.field-0 = sought_packet site (BreaksHost tables) n.1 c.requires.tells c.in_ok-found.field-0 c.in_ok-found.ensures in
    found_new site tables c.in-Some.found (subst (IsSoughtPacket site (BreaksHost tables)) c.in-Some.is first)

pub returns : goal.returns
returns c =
    let site = c.args.site.now in
    let tables = c.args.tables.now in
    let n = c.args.changed.now in
    let t = c.in_ok-dropped.dropped in
    let P : Option (Pair × Option Pair) → Type 0 = λ found. MatchOption found (IsTrueAtNoPair site t.1) (IsNamedPair site t.1) in
    let Q : Option (Pair × Option Pair) → Type 0 = IsSought site tables PassesHost in
    let first : IsSoughtPacket site (BreaksHost tables) c.in_ok-found.field-0 = sought_packet site (BreaksHost tables) n.1 c.requires.tells c.in_ok-found.field-0 c.in_ok-found.ensures in
    IfOk-weaker c.named_pair.result P Q
    (λ found h. found_pair site tables c.in_ok-found.field-0 found c.in_default.not-Some first
    (sought_pair site (BreaksHostEstablished site tables) t.1 c.in_ok-dropped.ensures.tells found h))
    c.named_pair.ensures
