use Rattle.std.proofs.Common.{ℕ, Option, List, sym, subst}
use Rattle.std.proofs.lemmas.Option.{MatchOption-at_none, MatchOption-at_some}
use Rattle.fws_place.specs.declared.breach.Pair.{Pair}
use Rattle.fws_place.specs.ByAck.{AreAheadAt}
use Rattle.fws_place.specs.Clauses.{BreaksByAckAhead, NamesPackets}
use Rattle.fws_place.proofs.ByAckPackets.{ahead_named, ahead_nowhere}
use Rattle.fws_place.proofs.PairPoints.{roomy}
use Rattle.fws_place.proofs.tells_by_ack_alone.ahead.Goals as goal

pub returns-in-None : goal.returns-in-None
returns-in-None c =
    let site = c.args.site.now in
    let t = c.in_ok-sometimes.sometimes in
    let new = c.args.new.now in
    let Nowhere : Type 0 = (p q : List ℕ) → AreAheadAt site t.1 new.1 p q → ⊥ in
    let Ahead : List ℕ × List ℕ → Type 0 = λ points. AreAheadAt site t.1 new.1 points.0 points.1 in
    let none : Nowhere = MatchOption-at_none Nowhere Ahead c.in-None.is c.in_ok-ahead_at.ensures in
    ahead_nowhere site c.args.tables.now t.1 new.1 c.requires.regular c.in_ok-sometimes.ensures.tells c.requires.tells none

pub packets_at-requires-clause-first : goal.packets_at-requires-clause-first
packets_at-requires-clause-first c =
    let site = c.args.site.now in
    let t = c.in_ok-sometimes.sometimes in
    let new = c.args.new.now in
    let points = c.in-Some.points in
    let Nowhere : Type 0 = (p q : List ℕ) → AreAheadAt site t.1 new.1 p q → ⊥ in
    let Ahead : List ℕ × List ℕ → Type 0 = λ points. AreAheadAt site t.1 new.1 points.0 points.1 in
    let is : Ahead points = MatchOption-at_some Nowhere Ahead points c.in-Some.is c.in_ok-ahead_at.ensures in
    roomy site c.requires.sound points.0 is.first.0

pub packets_at-requires-clause-second : goal.packets_at-requires-clause-second
packets_at-requires-clause-second c =
    let site = c.args.site.now in
    let t = c.in_ok-sometimes.sometimes in
    let new = c.args.new.now in
    let points = c.in-Some.points in
    let Nowhere : Type 0 = (p q : List ℕ) → AreAheadAt site t.1 new.1 p q → ⊥ in
    let Ahead : List ℕ × List ℕ → Type 0 = λ points. AreAheadAt site t.1 new.1 points.0 points.1 in
    let is : Ahead points = MatchOption-at_some Nowhere Ahead points c.in-Some.is c.in_ok-ahead_at.ensures in
    roomy site c.requires.sound points.1 is.within

pub returns : goal.returns
returns c =
    let site = c.args.site.now in
    let tables = c.args.tables.now in
    let t = c.in_ok-sometimes.sometimes in
    let new = c.args.new.now in
    let points = c.in-Some.points in
    let Nowhere : Type 0 = (p q : List ℕ) → AreAheadAt site t.1 new.1 p q → ⊥ in
    let Ahead : List ℕ × List ℕ → Type 0 = λ points. AreAheadAt site t.1 new.1 points.0 points.1 in
    let is : Ahead points = MatchOption-at_some Nowhere Ahead points c.in-Some.is c.in_ok-ahead_at.ensures in
    let Named : Pair × Option Pair → Type 0 = λ named. NamesPackets site (BreaksByAckAhead site tables) named.0 named.1 in
    subst Named (sym c.packets_at.ensures) (ahead_named site tables t.1 new.1 c.requires.regular c.in_ok-sometimes.ensures.tells c.requires.tells points.0 points.1 is)
