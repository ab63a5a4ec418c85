use Rattle.std.proofs.Common.{false, Option, Some, sym, ◌∙◌, ap, subst, MatchOption}
use Rattle.std.proofs.lemmas.Result.{IfOk-weaker}
use Rattle.std.specs.Prelude.{if◌then◌else◌}
use Rattle.fws_box.specs.Sides.{IsWithin}
use Rattle.fws_tree.specs.Plain.{value}
use Rattle.fws_place.specs.declared.breach.Pair.{Pair}
use Rattle.fws_place.specs.AheadOfLookup.{stays, IsSoughtAmong}
use Rattle.fws_place.specs.Found.{IsNamedPair, IsTrueAtNoPair}
use Rattle.fws_place.specs.Meaning.{point_of}
use Rattle.fws_place.proofs.Dropping.{sought_among, staying_told}
use Rattle.fws_place.proofs.drops_ahead_of_lookup.among_staying.Goals as goal

pub returns : goal.returns
returns c =
    let site = c.args.site.now in
    let tables = c.args.tables.now in
    let dropped = c.args.dropped.now in
    let t = c.in_ok-breaking.breaking in
    let P : Option (Pair × Option Pair) → Type 0 = λ found. MatchOption found (IsTrueAtNoPair site t.1) (IsNamedPair site t.1) in
    let Q : Option (Pair × Option Pair) → Type 0 = IsSoughtAmong site tables (stays site) in
    IfOk-weaker c.named_pair.result P Q
    (sought_among site tables (stays site) t.1
    (staying_told site tables c.requires.regular dropped.1 t.1 c.requires.dropped
    (λ p r w. c.in_ok-breaking.ensures.value (point_of p r) (subst (λ ts. IsWithin ts (point_of p r)) (sym c.requires.tops) w)
    ∙ ap (λ b. if b then value dropped.1 (point_of p r) else Some false) (c.in_ok-sides.ensures (point_of p r) w))))
    c.named_pair.ensures
