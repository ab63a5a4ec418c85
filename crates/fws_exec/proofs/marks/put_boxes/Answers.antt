use Rattle.std.proofs.Common.{◌≡◌, ◌+◌, ◌∷◌, drop, sym, ◌∙◌, ap, arith}
use Rattle.std.proofs.lemmas.List.{drop_more}
use Rattle.fws_exec.proofs.Marking.{boxed_step}
use Rattle.fws_exec.proofs.marks.put_boxes.Goals as goal

pub loop-area-preserved : goal.loop-area-preserved
loop-area-preserved c rest p =
    let here : drop c.loop-area.area-index c.args.boxes.now ≡ c.area-item.result ∷ drop (c.loop-area.area-index + 1) c.args.boxes.now =
    drop_more c.args.boxes.now c.loop-area.area-index c.area-item.result (omega arith) ∙ ap (λ s. s ∷ drop (c.loop-area.area-index + 1) c.args.boxes.now) (sym c.area-item.is) in
    boxed_step c.loop-area.marks.items c.push.new.self.items c.of_box.result c.area-item.result (drop (c.loop-area.area-index + 1) c.args.boxes.now) (drop c.loop-area.area-index c.args.boxes.now) c.args.label rest p c.in_ok-push.ensures.items c.of_box.ensures.sides c.of_box.ensures.label here
    ∙ c.loop-area.invariant rest p
