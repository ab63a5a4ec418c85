use Rattle.std.proofs.Common.{◌≡◌, ◌<◌, Some, length, arith, sym, ap, ◌∙◌}
use Rattle.std.proofs.lemmas.Option.{slice_get-get_or}
use Rattle.fws_ipt_put.proofs.Gathering.{has_place}
use Rattle.fws_ipt_put.proofs.marking.uses_for.Goals as goal

pub unreachable-requires : goal.unreachable-requires
unreachable-requires c = has_place c.args.rewrites.now.keys c.args.rewrite c.requires.there (sym c.in-None.ensures.index)

pub returns : goal.returns
returns c =
    let there : c.in-Some.place < length c.args.rewrites.now.keys = c.in-Some.ensures.within in
    let below : c.in-Some.place < length c.args.uses.now = omega (arith, there, c.requires.size) in
    (c.in-Some.place, sym c.in-Some.ensures.index, slice_get-get_or c.args.uses.now c.in-Some.place c.index-uses-place.result below ∙ ap Some (sym c.index-uses-place.is))
