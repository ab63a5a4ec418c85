use Rattle.std.proofs.Common.{◌<◌, ◌∙◌, length, arith}
use Rattle.fws_table.specs.TableText.{field_kinds}
use Rattle.fws_table.proofs.Steps.{next_side, first_text, further_text}
use Rattle.fws_table.proofs.row_text.put_sides.Goals as goal
use Rattle.fws_table.proofs.row_text.put_sides.Goals.{then-field-gt0+in_ok-put, else-field-gt0}

pub loop-field-preserved : goal.loop-field-preserved
loop-field-preserved c =
    let tops = c.args.tops.now in
    let sides = c.args.sides.now in
    let k = c.loop-field.field in
    let in_tops : k < length tops = omega arith in
    let in_sides : k < length sides = omega arith in
    let one = next_side c.args.site.now field_kinds tops sides k c.kind_of.result c.index-sides-field.result c.kind_of.ensures in_tops in_sides in
    elim c.if-field-gt0.branch [
      | then-field-gt0+in_ok-put w ↦
          further_text _ _ _ _ _ _ _ _ _ c.in_ok-put_side.ensures (w.out-is ∙ w.in_ok-put.ensures.ok) c.loop-field.invariant w.if-field-gt0.true one
      | else-field-gt0 w ↦
          first_text _ _ _ _ _ _ _ _ _ c.in_ok-put_side.ensures w.out-is c.loop-field.invariant w.if-field-gt0.false one
    ]
