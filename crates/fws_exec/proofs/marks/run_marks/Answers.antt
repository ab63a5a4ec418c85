use Rattle.std.proofs.Common.{◌≡◌, ◌+◌, ◌<◌, cond, [], ◌∷◌, drop, length, sym, ◌∙◌, ap, arith}
use Rattle.std.proofs.lemmas.List.{drop_more}
use Rattle.std.proofs.Math.ListN.{drop_of_length-le}
use Rattle.fws_box.specs.Boxes.{sides_of}
use Rattle.fws_box.specs.Sides.{sides_have}
use Rattle.fws_tree.specs.Marks.{mark_at}
use Rattle.fws_exec.specs.Divided.{seen_at}
use Rattle.fws_exec.specs.Runs.{picked}
use Rattle.fws_exec.proofs.Marking.{picked_step, same_both}
use Rattle.fws_exec.proofs.marks.run_marks.Goals as goal

pub loop-at-preserved : goal.loop-at-preserved
loop-at-preserved c p w =
    let lt : c.loop-at.at < length c.args.code.now = omega arith in
    let front : drop c.loop-at.at c.args.code.now ≡ c.index-code-at.result ∷ drop (c.loop-at.at + 1) c.args.code.now =
    drop_more c.args.code.now c.loop-at.at c.index-code-at.result lt ∙ ap (λ x. x ∷ drop (c.loop-at.at + 1) c.args.code.now) (sym c.index-code-at.is) in
    c.in_ok-put_ins.ensures c.args.part c.in_ok-scene.ensures (cond (sides_have (sides_of c.args.area.now) p) (picked c.args.place (seen_at c.args.ground.now.site.now c.args.ground.now.state c.args.part c.args.progress.now p) (drop c.past_same-at.result c.args.code.now)) 0) p w
    ∙ ap (λ r. mark_at c.loop-at.marks.items r p) (picked_step (sides_have (sides_of c.args.area.now) p) c.args.place (seen_at c.args.ground.now.site.now c.args.ground.now.state c.args.part c.args.progress.now p) c.index-code-at.result (drop (c.loop-at.at + 1) c.args.code.now) (drop c.past_same-at.result c.args.code.now) (drop c.loop-at.at c.args.code.now) front
    (c.past_same-at.ensures.picked (seen_at c.args.ground.now.site.now c.args.ground.now.state c.args.part c.args.progress.now p) c.args.place))
    ∙ c.loop-at.invariant p w

pub returns : goal.returns
returns c p w =
    let all : drop c.loop-at.at c.args.code.now ≡ [] = drop_of_length-le c.args.code.now (omega arith) in
    sym (ap (λ xs. mark_at c.loop-at.marks.items (cond (sides_have (sides_of c.args.area.now) p) (picked c.args.place (seen_at c.args.ground.now.site.now c.args.ground.now.state c.args.part c.args.progress.now p) xs) 0) p) all
    ∙ ap (λ r. mark_at c.loop-at.marks.items r p) (same_both (sides_have (sides_of c.args.area.now) p) 0))
    ∙ c.loop-at.invariant p w
