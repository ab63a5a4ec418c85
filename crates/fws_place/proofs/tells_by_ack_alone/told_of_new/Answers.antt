use Rattle.std.proofs.Common.{Option}
use Rattle.std.proofs.lemmas.Option.{MatchOption-at_none}
use Rattle.std.proofs.lemmas.Result.{IfOk-weaker}
use Rattle.fws_place.specs.declared.breach.Pair.{Pair}
use Rattle.fws_place.specs.declared.clause.Clause.TheVariants.{TellsByAckAlone}
use Rattle.fws_place.specs.ByAck.{AreSoughtSuch}
use Rattle.fws_place.specs.Clauses.{BreaksByAckAhead, BreaksByAckEstablished, BreaksByAckNew, NamesPackets, NamesPairs}
use Rattle.fws_place.specs.Found.{IsSought}
use Rattle.fws_place.proofs.ByAckPackets.{told_sought}
use Rattle.fws_place.proofs.tells_by_ack_alone.told_of_new.Goals as goal

pub returns : goal.returns
returns c =
    let site = c.args.site.now in
    let tables = c.args.tables.now in
    let New : Pair → Option Pair → Type 0 = NamesPackets site (BreaksByAckNew tables) in
    let Established : Pair → Option Pair → Type 0 = NamesPairs site (BreaksByAckEstablished site tables) in
    let none_new : (first : Pair) (second : Option Pair) → New first second → ⊥
    = MatchOption-at_none ((first : Pair) (second : Option Pair) → New first second → ⊥) (λ (named : Pair × Option Pair). New named.0 named.1) c.in_default.is c.in_ok-found.ensures in
    let none_established : (first : Pair) (second : Option Pair) → Established first second → ⊥
    = MatchOption-at_none ((first : Pair) (second : Option Pair) → Established first second → ⊥) (λ (named : Pair × Option Pair). Established named.0 named.1) c.in_default-2.is c.in_ok-found-2.ensures in
    let P : Option (Pair × Option Pair) → Type 0 = AreSoughtSuch (NamesPackets site (BreaksByAckAhead site tables)) in
    let Q : Option (Pair × Option Pair) → Type 0 = IsSought site tables TellsByAckAlone in
    IfOk-weaker c.ahead.result P Q (λ found h. told_sought site tables found none_new none_established h) c.ahead.ensures
