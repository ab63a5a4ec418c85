use Rattle.std.proofs.Common.{Option, get_or}
use Rattle.std.proofs.lemmas.Option.{MatchOption-at_some}
use Rattle.fws_place.specs.declared.breach.Pair.{Pair}
use Rattle.fws_place.specs.declared.clause.Clause.TheVariants.{FewOutcomes}
use Rattle.fws_place.specs.Clauses.{Breaks}
use Rattle.fws_place.specs.Fits.{Meets}
use Rattle.fws_place.proofs.Breaking.{breach_at, met_more}
use Rattle.fws_place.proofs.checking.check.Goals as goal

pub returns-in-Some-clause-breach : goal.returns-in-Some-clause-breach
returns-in-Some-clause-breach c = λ b e.
    let site = c.args.site.now in
    let tables = c.args.tables.now in
    let clause = get_or c.clauses_of-clause-items.result.now c.loop-clause.clause-index FewOutcomes in
    let Broken : Pair × Option Pair → Type 0 = λ named. Breaks site tables clause named.0 named.1 in
    breach_at c.args.target c.args.site.now c.args.tables.now c.clauses_of-clause-items.result.now c.loop-clause.clause-index FewOutcomes c.in-Some.first c.in-Some.second b
    c.clauses_of-clause-items.ensures c.loop-clause-test.true c.loop-clause.invariant
    (MatchOption-at_some (Meets site tables clause) Broken (c.in-Some.first, c.in-Some.second) c.in-Some.is c.in_ok-first.ensures) (cc)

pub loop-clause-preserved : goal.loop-clause-preserved
loop-clause-preserved c =
    met_more c.args.target c.args.site.now c.args.tables.now c.clauses_of-clause-items.result.now c.loop-clause.clause-index FewOutcomes c.in_ok-first.field-0
    c.clauses_of-clause-items.ensures c.loop-clause-test.true c.loop-clause.invariant c.in_ok-first.ensures c.in_default.not-Some
