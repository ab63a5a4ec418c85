use Rattle.std.proofs.Common.{not, Option}
use Rattle.std.proofs.lemmas.Result.{IfOk-weaker}
use Rattle.fws_place.specs.declared.breach.Pair.{Pair}
use Rattle.fws_place.specs.AheadOfLookup.{passes, stays, IsSoughtAmong}
use Rattle.fws_place.specs.Pairs.{is_host}
use Rattle.fws_place.proofs.Dropping.{found_arriving, none_found}
use Rattle.fws_place.proofs.drops_ahead_of_lookup.among_arriving.Goals as goal

pub returns : goal.returns
returns c =
    let site = c.args.site.now in
    let tables = c.args.tables.now in
    let P : Option (Pair × Option Pair) → Type 0 = IsSoughtAmong site tables (passes site) in
    let Q : Option (Pair × Option Pair) → Type 0 = IsSoughtAmong site tables (λ p r. not (is_host p)) in
    IfOk-weaker c.among_passing.result P Q (found_arriving site tables (none_found site tables (stays site) c.in_ok-found.field-0 c.in_default.not-Some c.in_ok-found.ensures))
    c.among_passing.ensures
