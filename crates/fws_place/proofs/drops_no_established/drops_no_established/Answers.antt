use Rattle.std.proofs.Common.{Option, MatchOption}
use Rattle.std.proofs.lemmas.Result.{IfOk-weaker}
use Rattle.fws_place.specs.declared.breach.Pair.{Pair}
use Rattle.fws_place.specs.declared.clause.Clause.TheVariants.{DropsNoEstablished}
use Rattle.fws_place.specs.Found.{IsNamedPair, IsSought, IsTrueAtNoPair}
use Rattle.fws_place.proofs.NoneDropped.{sought_dropped}
use Rattle.fws_place.proofs.drops_no_established.drops_no_established.Goals as goal

pub returns : goal.returns
returns c =
    let site = c.args.site.now in
    let tables = c.args.tables.now in
    let t = c.in_ok-dropped.dropped in
    let P : Option (Pair × Option Pair) → Type 0 = λ found. MatchOption found (IsTrueAtNoPair site t.1) (IsNamedPair site t.1) in
    let Q : Option (Pair × Option Pair) → Type 0 = IsSought site tables DropsNoEstablished in
    IfOk-weaker c.named_pair.result P Q (sought_dropped site tables t.1 c.in_ok-dropped.ensures.tells) c.named_pair.ensures
