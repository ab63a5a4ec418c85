use Rattle.std.proofs.Common.{◌<◌, ◌∙◌, length, arith}
use Rattle.fws_table.specs.TableText.{part_text}
use Rattle.fws_table.proofs.Steps.{next_part, first_text, further_text}
use Rattle.fws_table.proofs.side_text.put_parts.Goals as goal
use Rattle.fws_table.proofs.side_text.put_parts.Goals.{then-place-gt0+in_ok-put, else-place-gt0}

pub loop-place-preserved : goal.loop-place-preserved
loop-place-preserved c =
    let text = part_text c.args.site.now c.args.kind in
    let parts = c.args.parts.now in
    let lt : c.loop-place.place < length parts = omega arith in
    elim c.if-place-gt0.branch [
      | then-place-gt0+in_ok-put w ↦
          further_text _ _ _ _ _ _ _ _ _ c.in_ok-put_part.ensures (w.out-is ∙ w.in_ok-put.ensures.ok) c.loop-place.invariant w.if-place-gt0.true (next_part text parts _ _ lt)
      | else-place-gt0 w ↦
          first_text _ _ _ _ _ _ _ _ _ c.in_ok-put_part.ensures w.out-is c.loop-place.invariant w.if-place-gt0.false (next_part text parts _ _ lt)
    ]
