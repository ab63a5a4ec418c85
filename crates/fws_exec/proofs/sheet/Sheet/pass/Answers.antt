use Rattle.std.proofs.Common.{get_or, sym, ◌∙◌, ap}
use Rattle.std.proofs.lemmas.Option.{same_Some, slice_get-get_or}
use Rattle.fws_exec.proofs.Coursing.{part_within}
use Rattle.fws_exec.proofs.sheet.Sheet.pass.Goals as goal

pub pass_always-requires-clause-always : goal.pass_always-requires-clause-always
pass_always-requires-clause-always c ins got =
    let here = slice_get-get_or c.args.errand.now.code.now c.args.place c.index-errand-place.result (part_within c.args.errand.now.code.now c.args.errand.now.part c.args.place c.requires.part c.requires.high) in
    ap (λ i. i.cond) (same_Some ins (get_or c.args.errand.now.code.now c.args.place c.index-errand-place.result) (sym got ∙ here)) ∙ c.is_always.ensures c.if-is_always.true
