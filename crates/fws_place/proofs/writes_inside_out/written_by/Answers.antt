use Rattle.std.proofs.Common.{Option, subst}
use Rattle.std.proofs.lemmas.Result.{IfOk-weaker}
use Rattle.fws_place.specs.declared.breach.Pair.{Pair}
use Rattle.fws_place.specs.declared.clause.Clause.TheVariants.{WritesInsideOut}
use Rattle.fws_place.specs.Asked.{IsSoughtPacket}
use Rattle.fws_place.specs.Crossing.{IsWrittenElsewhere, IsWrittenWithin}
use Rattle.fws_place.specs.Found.{IsSought}
use Rattle.fws_place.proofs.Crossings.{elsewhere_breaks, found_last}
use Rattle.fws_place.proofs.writes_inside_out.written_by.Goals as goal

pub returns-in-Some : goal.returns-in-Some
returns-in-Some c =
    let site = c.args.site.now in
    let tables = c.args.tables.now in
    elsewhere_breaks site tables c.in-Some.found (subst (IsSoughtPacket site (IsWrittenElsewhere site tables)) c.in-Some.is c.in_ok-found.ensures)

pub returns : goal.returns
returns c =
    let site = c.args.site.now in
    let tables = c.args.tables.now in
    let P : Option (Pair × Option Pair) → Type 0 = IsSoughtPacket site (IsWrittenWithin site tables) in
    let Q : Option (Pair × Option Pair) → Type 0 = IsSought site tables WritesInsideOut in
    IfOk-weaker c.written_within.result P Q (λ found h. found_last site tables c.in_ok-found.field-0 found c.in_default.not-Some c.in_ok-found.ensures h) c.written_within.ensures
