use Rattle.std.proofs.Common.{Option, MatchOption}
use Rattle.std.proofs.lemmas.Result.{IfOk-weaker}
use Rattle.fws_place.specs.declared.breach.Pair.{Pair}
use Rattle.fws_place.specs.AheadOfLookup.{IsSoughtAmong}
use Rattle.fws_place.specs.Found.{IsNamedPair, IsTrueAtNoPair}
use Rattle.fws_place.specs.Pairs.{is_host}
use Rattle.fws_place.proofs.Dropping.{sought_among}
use Rattle.fws_place.proofs.drops_ahead_of_lookup.among_host.Goals as goal

pub returns : goal.returns
returns c =
    let site = c.args.site.now in
    let tables = c.args.tables.now in
    let t = c.in_ok-breaking.breaking in
    let P : Option (Pair × Option Pair) → Type 0 = λ found. MatchOption found (IsTrueAtNoPair site t.1) (IsNamedPair site t.1) in
    let Q : Option (Pair × Option Pair) → Type 0 = IsSoughtAmong site tables (λ p r. is_host p) in
    IfOk-weaker c.named_pair.result P Q (sought_among site tables (λ p r. is_host p) t.1 c.in_ok-breaking.ensures.tells) c.named_pair.ensures
