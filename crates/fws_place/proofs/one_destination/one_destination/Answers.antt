use Rattle.std.proofs.lemmas.Result.{IfOk-weaker}
use Rattle.std.proofs.Common.{Option}
use Rattle.fws_place.specs.declared.breach.Pair.{Pair}
use Rattle.fws_place.specs.declared.clause.Clause.TheVariants.{OneDestination}
use Rattle.fws_place.specs.declared.one_end.Compared.TheVariants.{Destinations}
use Rattle.fws_place.specs.Found.{IsSought}
use Rattle.fws_place.specs.OneEnd.{AreSoughtEnds}
use Rattle.fws_place.proofs.OneEnds.{one_destination}
use Rattle.fws_place.proofs.one_destination.one_destination.Goals as goal

pub returns : goal.returns
returns c =
    let site = c.args.site.now in
    let tables = c.args.tables.now in
    let P : Option (Pair × Option Pair) → Type 0 = AreSoughtEnds site tables Destinations in
    let Q : Option (Pair × Option Pair) → Type 0 = IsSought site tables OneDestination in
    IfOk-weaker c.different_ends.result P Q (one_destination site tables) c.different_ends.ensures
