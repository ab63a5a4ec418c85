use Rattle.std.proofs.Common.{◌+◌, ◌-◌, ◌%◌, ◌^◌, ◌&&◌, ℕ, Bool, List, ap, ◌∙◌}
use Rattle.std.proofs.lemmas.Result.{IfOk-weaker}
use Rattle.fws_iv.specs.Ivs.{has}
use Rattle.fws_box.specs.Boxes.{sides_of}
use Rattle.fws_box.specs.Fields.{value_of}
use Rattle.fws_box_conditions.specs.Areas.{AreWhere}
use Rattle.fws_box_conditions.proofs.Counting.{where_same}
use Rattle.fws_box_conditions.proofs.address_boxes.written_boxes.Goals as goal

pub returns-clause-held : goal.returns-clause-held
returns-clause-held c =
    let area = sides_of c.args.area.now in
    let t : List ℕ → Bool = λ p. has c.in_ok-members.members (value_of p c.args.field) in
    let u : List ℕ → Bool = λ p. has c.args.set.now (c.args.end.addr + value_of p c.args.field % 2 ^ (32 - c.args.end.len)) in
    IfOk-weaker c.field_boxes.result _ (λ boxes. AreWhere area u boxes.items) (λ boxes e. where_same area t u boxes.items e (λ p n h.
    c.in_ok-members.ensures.members (value_of p c.args.field)
    ∙ ap (λ b. b && u p) (c.side.ensures.has p n h))) c.field_boxes.ensures
