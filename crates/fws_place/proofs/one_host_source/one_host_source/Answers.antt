use Rattle.std.proofs.lemmas.Result.{IfOk-weaker}
use Rattle.std.proofs.Common.{Option}
use Rattle.fws_place.specs.declared.breach.Pair.{Pair}
use Rattle.fws_place.specs.declared.clause.Clause.TheVariants.{OneHostSource}
use Rattle.fws_place.specs.declared.one_end.Compared.TheVariants.{HostSources}
use Rattle.fws_place.specs.Found.{IsSought}
use Rattle.fws_place.specs.OneEnd.{AreSoughtEnds}
use Rattle.fws_place.proofs.OneEnds.{one_host_source}
use Rattle.fws_place.proofs.one_host_source.one_host_source.Goals as goal

pub returns : goal.returns
returns c =
    let site = c.args.site.now in
    let tables = c.args.tables.now in
    let P : Option (Pair × Option Pair) → Type 0 = AreSoughtEnds site tables HostSources in
    let Q : Option (Pair × Option Pair) → Type 0 = IsSought site tables OneHostSource in
    IfOk-weaker c.different_ends.result P Q (one_host_source site tables) c.different_ends.ensures
