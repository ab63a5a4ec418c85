use Rattle.std.proofs.Common.{ℕ, Bool, Option, List, sym, subst}
use Rattle.std.proofs.lemmas.Option.{MatchOption-at_none, MatchOption-at_some}
use Rattle.fws_net.specs.Points.{tops_of}
use Rattle.fws_place.specs.declared.breach.Pair.{Pair}
use Rattle.fws_place.specs.ByAck.{AreToldByMore}
use Rattle.fws_place.specs.Clauses.{BreaksByAckNew, NamesPackets}
use Rattle.fws_place.proofs.ByAckPackets.{new_named, new_none}
use Rattle.fws_place.proofs.PairPoints.{roomy}
use Rattle.fws_place.proofs.tells_by_ack_alone.new_by_more.Goals as goal

pub returns-in-None : goal.returns-in-None
returns-in-None c =
    let tops : List ℕ = tops_of c.args.site.now in
    let t = c.args.new.now in
    let Nowhere : Type 0 = (asked : Bool) (p q : List ℕ) → AreToldByMore asked tops t.1 p q → ⊥ in
    let Told : List ℕ × List ℕ → Type 0 = λ points. (asked : Bool) × AreToldByMore asked tops t.1 points.0 points.1 in
    let none : Nowhere = MatchOption-at_none Nowhere Told c.in-None.is c.in_ok-told_by_more.ensures in
    new_none c.args.site.now c.args.tables.now t.1 c.requires.tells none

pub packets_at-requires-clause-first : goal.packets_at-requires-clause-first
packets_at-requires-clause-first c =
    let tops : List ℕ = tops_of c.args.site.now in
    let t = c.args.new.now in
    let points = c.in-Some.points in
    let Nowhere : Type 0 = (asked : Bool) (p q : List ℕ) → AreToldByMore asked tops t.1 p q → ⊥ in
    let Told : List ℕ × List ℕ → Type 0 = λ points. (asked : Bool) × AreToldByMore asked tops t.1 points.0 points.1 in
    let told : Told points = MatchOption-at_some Nowhere Told points c.in-Some.is c.in_ok-told_by_more.ensures in
    roomy c.args.site.now c.requires.sound points.0 told.1.first.0

pub packets_at-requires-clause-second : goal.packets_at-requires-clause-second
packets_at-requires-clause-second c =
    let tops : List ℕ = tops_of c.args.site.now in
    let t = c.args.new.now in
    let points = c.in-Some.points in
    let Nowhere : Type 0 = (asked : Bool) (p q : List ℕ) → AreToldByMore asked tops t.1 p q → ⊥ in
    let Told : List ℕ × List ℕ → Type 0 = λ points. (asked : Bool) × AreToldByMore asked tops t.1 points.0 points.1 in
    let told : Told points = MatchOption-at_some Nowhere Told points c.in-Some.is c.in_ok-told_by_more.ensures in
    roomy c.args.site.now c.requires.sound points.1 told.1.within

pub returns-in-Some : goal.returns-in-Some
returns-in-Some c =
    let site = c.args.site.now in
    let tables = c.args.tables.now in
    let tops : List ℕ = tops_of site in
    let t = c.args.new.now in
    let points = c.in-Some.points in
    let Nowhere : Type 0 = (asked : Bool) (p q : List ℕ) → AreToldByMore asked tops t.1 p q → ⊥ in
    let Told : List ℕ × List ℕ → Type 0 = λ points. (asked : Bool) × AreToldByMore asked tops t.1 points.0 points.1 in
    let told : Told points = MatchOption-at_some Nowhere Told points c.in-Some.is c.in_ok-told_by_more.ensures in
    let Named : Pair × Option Pair → Type 0 = λ named. NamesPackets site (BreaksByAckNew tables) named.0 named.1 in
    subst Named (sym c.packets_at.ensures) (new_named site tables t.1 c.requires.tells told.0 points.0 points.1 told.1)
