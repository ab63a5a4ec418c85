use Rattle.std.proofs.Common.{ℕ, Option, List, sym, subst}
use Rattle.std.proofs.lemmas.Option.{MatchOption-at_none, MatchOption-at_some}
use Rattle.fws_net.specs.declared.outcome.Outcome.TheVariants.{Drop}
use Rattle.fws_net.specs.Points.{tops_of}
use Rattle.fws_place.specs.declared.breach.Pair.{Pair}
use Rattle.fws_place.specs.Apart.{entry_and_flags, AreAlikeBy, AreApart}
use Rattle.fws_place.specs.Clauses.{BreaksOneSource, NamesPackets}
use Rattle.fws_place.proofs.OneSources.{no_sources_named, sources_named}
use Rattle.fws_place.proofs.PairPoints.{roomy}
use Rattle.fws_place.proofs.one_source.one_source.Goals as goal

pub returns-in-None : goal.returns-in-None
returns-in-None c =
    let t = c.in_ok-tree.tree in
    let none : AreAlikeBy (λ x. x) entry_and_flags t.0 t.1 Drop
    = MatchOption-at_none (AreAlikeBy (λ x. x) entry_and_flags t.0 t.1 Drop) (λ (points : List ℕ × List ℕ). AreApart entry_and_flags t.0 t.1 Drop points.0 points.1) c.in-None.is c.in_ok-apart.ensures in
    no_sources_named c.args.site.now c.args.tables.now t.1 c.requires.regular c.in_ok-tree.ensures.value
    (subst (λ (ts : List ℕ). AreAlikeBy (λ x. x) entry_and_flags ts t.1 Drop) c.in_ok-tree.ensures.tops none)

pub packets_at-requires-clause-first : goal.packets_at-requires-clause-first
packets_at-requires-clause-first c =
    let t = c.in_ok-tree.tree in
    let points = c.in-Some.points in
    let apart : AreApart entry_and_flags t.0 t.1 Drop points.0 points.1
    = MatchOption-at_some (AreAlikeBy (λ x. x) entry_and_flags t.0 t.1 Drop) (λ (points : List ℕ × List ℕ). AreApart entry_and_flags t.0 t.1 Drop points.0 points.1) points c.in-Some.is c.in_ok-apart.ensures in
    let here : AreApart entry_and_flags (tops_of c.args.site.now) t.1 Drop points.0 points.1 = subst (λ (ts : List ℕ). AreApart entry_and_flags ts t.1 Drop points.0 points.1) c.in_ok-tree.ensures.tops apart in
    roomy c.args.site.now c.requires.sound points.0 here.have.within

pub packets_at-requires-clause-second : goal.packets_at-requires-clause-second
packets_at-requires-clause-second c =
    let t = c.in_ok-tree.tree in
    let points = c.in-Some.points in
    let apart : AreApart entry_and_flags t.0 t.1 Drop points.0 points.1
    = MatchOption-at_some (AreAlikeBy (λ x. x) entry_and_flags t.0 t.1 Drop) (λ (points : List ℕ × List ℕ). AreApart entry_and_flags t.0 t.1 Drop points.0 points.1) points c.in-Some.is c.in_ok-apart.ensures in
    let here : AreApart entry_and_flags (tops_of c.args.site.now) t.1 Drop points.0 points.1 = subst (λ (ts : List ℕ). AreApart entry_and_flags ts t.1 Drop points.0 points.1) c.in_ok-tree.ensures.tops apart in
    roomy c.args.site.now c.requires.sound points.1 here.have.other_within

pub returns : goal.returns
returns c =
    let site = c.args.site.now in
    let tables = c.args.tables.now in
    let t = c.in_ok-tree.tree in
    let points = c.in-Some.points in
    let apart : AreApart entry_and_flags t.0 t.1 Drop points.0 points.1
    = MatchOption-at_some (AreAlikeBy (λ x. x) entry_and_flags t.0 t.1 Drop) (λ (points : List ℕ × List ℕ). AreApart entry_and_flags t.0 t.1 Drop points.0 points.1) points c.in-Some.is c.in_ok-apart.ensures in
    let here : AreApart entry_and_flags (tops_of site) t.1 Drop points.0 points.1 = subst (λ (ts : List ℕ). AreApart entry_and_flags ts t.1 Drop points.0 points.1) c.in_ok-tree.ensures.tops apart in
    let Named : Pair × Option Pair → Type 0 = λ named. NamesPackets site (BreaksOneSource site tables) named.0 named.1 in
    subst Named (sym c.packets_at.ensures) (sources_named site tables t.1 c.requires.regular c.in_ok-tree.ensures.value points.0 points.1 here)
