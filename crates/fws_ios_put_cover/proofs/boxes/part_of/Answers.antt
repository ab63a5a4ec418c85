use Rattle.std.proofs.Common.{◌≡◌, ℕ, ◌<◌, ◌≤◌, List, [], get_or, length, sym, ◌∙◌, ap, arith}
use Rattle.std.proofs.lemmas.List.{get_or_default}
use Rattle.std.specs.Prelude.{slice_set}
use Rattle.fws_iv.specs.declared.iv.Iv.{Iv}
use Rattle.fws_ios_put_cover.specs.Boxes.{part}
use Rattle.fws_ios_put_cover.proofs.Parting.{part_more, part_same}
use Rattle.fws_ios_put_cover.proofs.boxes.part_of.Goals.{then-keeps+in_ok-part-3, else-keeps}
use Rattle.fws_ios_put_cover.proofs.boxes.part_of.Goals as goal

pub loop-f-preserved : goal.loop-f-preserved
loop-f-preserved c =
    let f : ℕ = c.loop-f.f in
    let low : 2 ≤ f = c.loop-f.auto.f in
    let sides = c.args.sides.now in
    let twelve : length sides ≡ 12 = c.type_inv.sides in
    let high : f < 8 = c.loop-f-test.true in
    let protos = part (slice_set c.in_ok-part.part 1 c.in_ok-part-2.field-0) 1 in
    elim c.if-keeps.branch [
      | then-keeps+in_ok-part-3 w ↦ (let set : List Iv = w.index-sides-f.result in
          let is : get_or sides f set ≡ part sides f = get_or_default sides f set [] (omega (arith, twelve, high)) in
          part_more c.args.class c.args.tops.now sides protos f c.loop-f.part c.if-keeps.part low high (sym c.keeps.ensures ∙ w.if-keeps.true)
          (w.part-is ∙ ap (λ (s : List Iv). slice_set c.loop-f.part f s) (w.in_ok-part-3.ensures ∙ is)) c.loop-f.invariant)
      | else-keeps w ↦ part_same c.args.class c.args.tops.now sides protos f c.loop-f.part c.if-keeps.part (sym c.keeps.ensures ∙ w.if-keeps.false) w.part-is c.loop-f.invariant
    ]
