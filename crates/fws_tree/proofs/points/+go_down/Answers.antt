use Rattle.std.proofs.Common.{rules, ◌<◌, length, get_or, sym, ◌∙◌, arith}
use Rattle.std.proofs.lemmas.Option.{slice_get-get_or}
use Rattle.fws_tree.specs.declared.store.Step.{Step}
use Rattle.fws_tree.specs.declared.store.Cell.TheVariants.{Leaf}
use Rattle.fws_tree.proofs.points.+go_down.Goals as goal

pub go_down-requires : goal.go_down-requires
go_down-requires t c =
    let d : Step = record { hi = 0; node = 0 } in
    let is = slice_get-get_or c.args.fresh.store.now c.args.at (Leaf 0) c.requires.at in
    let s : (get_or c.view-last.result.0.now c.loop-step.step-index d).node < c.args.at = (c.view-last.ensures.strict _ is (sym (c.cut_field.ensures _ is) ∙ c.in-Some-cut_field.is)).0 c.loop-step.step-index d c.loop-step-test.true in
    let l : (get_or c.view-last.result.0.now c.loop-step.step-index d).node < length c.args.fresh.store.now = (let top = c.requires.at in omega arith) in
    search rules

pub go_down-requires-then-has-2 : goal.go_down-requires-then-has-2
go_down-requires-then-has-2 t c =
    let is = slice_get-get_or c.args.fresh.store.now c.args.at (Leaf 0) c.requires.at in
    let s : c.view-last.result.1 < c.args.at = (c.view-last.ensures.strict _ is (sym (c.cut_field.ensures _ is) ∙ c.in-Some-cut_field.is)).1 in
    let l : c.view-last.result.1 < length c.args.fresh.store.now = (let top = c.requires.at in omega arith) in
    search rules
