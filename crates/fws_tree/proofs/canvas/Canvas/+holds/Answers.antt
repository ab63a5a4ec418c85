use Rattle.std.proofs.Common.{rules, ◌<◌, length, get_or, refl, sym, ◌∙◌, arith}
use Rattle.std.proofs.lemmas.Option.{slice_get-get_or}
use Rattle.fws_tree.specs.declared.store.Step.{Step}
use Rattle.fws_tree.specs.declared.store.Cell.TheVariants.{Leaf}
use Rattle.fws_tree.proofs.Spreading.{lacking-more, lacks_cut, lacks_all}
use Rattle.fws_tree.proofs.canvas.Canvas.+holds.Goals as goal

pub holds-requires : goal.holds-requires
holds-requires t c =
    let d : Step = record { hi = 0; node = 0 } in
    let is = slice_get-get_or c.args.self.now.store c.args.at (Leaf 0) c.requires.at in
    let s : (get_or c.view-last.result.0.now c.loop-step.step-index d).node < c.args.at = (c.view-last.ensures.strict _ is (sym (c.cut_field.ensures _ is) ∙ c.in-Some.is)).0 c.loop-step.step-index d c.loop-step-test.true in
    let l : (get_or c.view-last.result.0.now c.loop-step.step-index d).node < length c.args.self.now.store = (let top = c.requires.at in omega arith) in
    search rules

pub holds-requires-2 : goal.holds-requires-2
holds-requires-2 t c =
    let is = slice_get-get_or c.args.self.now.store c.args.at (Leaf 0) c.requires.at in
    let s : c.view-last.result.1 < c.args.at = (c.view-last.ensures.strict _ is (sym (c.cut_field.ensures _ is) ∙ c.in-Some.is)).1 in
    let l : c.view-last.result.1 < length c.args.self.now.store = (let top = c.requires.at in omega arith) in
    search rules

pub returns-clause-lacks : goal.returns-clause-lacks
returns-clause-lacks t c none =
    lacks_cut c.args.self.now c.args.value c.args.at c.in-Some.cut c.view-last.result.1 c.view-last.result.0.now c.view-last.ensures.held
    (lacks_all c.args.self.now c.args.value c.loop-step.step-index c.view-last.result.0.now c.loop-step-test.false c.loop-step.invariant.steps)
    (c.in_ok-holds-2.ensures.lacks c.if-branch-2.false)

pub returns-clause-lacking : goal.returns-clause-lacking
returns-clause-lacking t c =
    lacking-more c.args.self.now c.args.value c.args.at c.holds-2.new.lacking c.insert.new.self c.in_ok-holds-2.ensures.lacking c.in_ok-insert.ensures.updates (returns-clause-lacks t c refl)
