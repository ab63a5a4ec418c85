use Rattle.std.proofs.Common.{Option, MatchOption}
use Rattle.std.proofs.lemmas.Result.{IfOk-weaker}
use Rattle.fws_place.specs.declared.breach.Pair.{Pair}
use Rattle.fws_place.specs.AheadOfLookup.{passes, IsSoughtAmong}
use Rattle.fws_place.specs.Found.{IsNamedPair, IsTrueAtNoPair}
use Rattle.fws_place.proofs.Dropping.{none_passing, sought_among}
use Rattle.fws_place.proofs.drops_ahead_of_lookup.among_passing.Goals as goal

pub returns-then-not-site : goal.returns-then-not-site
returns-then-not-site c = none_passing c.args.site.now c.args.tables.now c.if-not-site.true

pub breaking_of_passing-requires-clause-forwarding : goal.breaking_of_passing-requires-clause-forwarding
breaking_of_passing-requires-clause-forwarding c = c.if-not-site.false

pub returns : goal.returns
returns c =
    let site = c.args.site.now in
    let tables = c.args.tables.now in
    let t = c.in_ok-breaking.breaking in
    let P : Option (Pair × Option Pair) → Type 0 = λ found. MatchOption found (IsTrueAtNoPair site t.1) (IsNamedPair site t.1) in
    let Q : Option (Pair × Option Pair) → Type 0 = IsSoughtAmong site tables (passes site) in
    IfOk-weaker c.named_pair.result P Q (sought_among site tables (passes site) t.1 c.in_ok-breaking.ensures.tells) c.named_pair.ensures
