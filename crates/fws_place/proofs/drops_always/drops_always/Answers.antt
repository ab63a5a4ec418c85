use Rattle.std.proofs.Common.{Option, MatchOption}
use Rattle.std.proofs.lemmas.Result.{IfOk-weaker}
use Rattle.fws_place.specs.declared.breach.Pair.{Pair}
use Rattle.fws_place.specs.declared.clause.Clause.TheVariants.{DropsAlways}
use Rattle.fws_place.specs.Clauses.{BreaksAlways}
use Rattle.fws_place.specs.Found.{IsNamedPair, IsSought, IsTrueAtNoPair}
use Rattle.fws_place.proofs.NamedPairs.{sought_pair}
use Rattle.fws_place.proofs.drops_always.drops_always.Goals as goal

pub returns : goal.returns
returns c =
    let site = c.args.site.now in
    let tables = c.args.tables.now in
    let t = c.in_ok-breaking.breaking in
    let P : Option (Pair × Option Pair) → Type 0 = λ found. MatchOption found (IsTrueAtNoPair site t.1) (IsNamedPair site t.1) in
    let Q : Option (Pair × Option Pair) → Type 0 = IsSought site tables DropsAlways in
    IfOk-weaker c.named_pair.result P Q (sought_pair site (BreaksAlways site tables) t.1 c.in_ok-breaking.ensures.tells) c.named_pair.ensures
