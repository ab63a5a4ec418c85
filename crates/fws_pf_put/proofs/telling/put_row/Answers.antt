use Rattle.std.proofs.Common.{◌≡◌, ◌<◌, Some, length, slice_get, slice_set, arith, refl, sym, ap, ◌∙◌}
use Rattle.std.proofs.lemmas.Option.{slice_get-get_or}
use Rattle.fws_pf_put.proofs.Gathers.{none_found, puts_here, puts_other}
use Rattle.fws_pf_put.proofs.telling.put_row.Goals as goal

pub returns-in_default-get_index_of-clause-row : goal.returns-in_default-get_index_of-clause-row
returns-in_default-get_index_of-clause-row c =
    puts_other c.args.ends.now.keys c.args.row.now c.args.sets.now.items c.in-Some.end (sym c.in-Some.ensures)
    (none_found _ _ c.get_index_of.ensures.index c.in_default-get_index_of.not-Some)

pub returns-clause-row : goal.returns-clause-row
returns-clause-row c =
    let there : c.in-Some-get_index_of.place < length c.args.ends.now.keys = c.in-Some-get_index_of.ensures.within in
    let below : c.in-Some-get_index_of.place < length c.args.sets.now.items = omega (arith, there, c.requires) in
    let was : slice_get c.args.sets.now.items c.in-Some-get_index_of.place ≡ Some c.index.result.now = slice_get-get_or c.args.sets.now.items c.in-Some-get_index_of.place c.index.result.now below ∙ ap Some (sym c.index.ensures) in
    let e = c.in_ok-sets.ensures in
    puts_here c.args.ends.now.keys c.args.row.now c.args.sets.now.items (slice_set c.args.sets.now.items c.in-Some-get_index_of.place c.in_ok-sets.field-0) c.in-Some.end c.in-Some-get_index_of.place c.index.result.now c.in_ok-sets.field-0
    (sym c.in-Some.ensures) (sym c.in-Some-get_index_of.ensures.index) was refl e.row e.grows
