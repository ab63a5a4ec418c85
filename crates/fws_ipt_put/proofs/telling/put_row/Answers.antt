use Rattle.std.proofs.Common.{◌≡◌, ◌<◌, Some, length, slice_get, slice_set, arith, refl, sym, ap, ◌∙◌}
use Rattle.std.proofs.lemmas.Option.{slice_get-get_or}
use Rattle.fws_ipt_put.proofs.Gathering.{none_found, puts_here, puts_other}
use Rattle.fws_ipt_put.proofs.telling.put_row.Goals as goal

pub returns-in_default-get_index_of-clause-row : goal.returns-in_default-get_index_of-clause-row
returns-in_default-get_index_of-clause-row c =
    puts_other c.args.rewrites.now.keys c.args.row.now c.args.uses.now.items c.in-Accept.rewrite c.in-Accept.is
    (none_found _ _ c.get_index_of.ensures.index c.in_default-get_index_of.not-Some)

pub returns-clause-row : goal.returns-clause-row
returns-clause-row c =
    let there : c.in-Some.place < length c.args.rewrites.now.keys = c.in-Some.ensures.within in
    let below : c.in-Some.place < length c.args.uses.now.items = omega (arith, there, c.requires) in
    let was : slice_get c.args.uses.now.items c.in-Some.place ≡ Some c.index.result.now = slice_get-get_or c.args.uses.now.items c.in-Some.place c.index.result.now below ∙ ap Some (sym c.index.ensures) in
    let e = c.in_ok-uses.ensures in
    puts_here c.args.rewrites.now.keys c.args.row.now c.args.uses.now.items (slice_set c.args.uses.now.items c.in-Some.place c.in_ok-uses.field-0) c.in-Accept.rewrite c.in-Some.place c.index.result.now c.in_ok-uses.field-0
    c.in-Accept.is (sym c.in-Some.ensures.index) was refl e.row (record { entries = e.entries; protos = e.protos; dsts = e.dsts; srcs = e.srcs })
