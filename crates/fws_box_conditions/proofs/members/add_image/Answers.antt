use Rattle.std.proofs.Common.{◌<◌, sym, ◌∙◌, length, arith}
use Rattle.fws_iv.specs.declared.iv.Iv.{Iv}
use Rattle.fws_iv.specs.Ivs.{has}
use Rattle.fws_box_conditions.proofs.Blocks.{image_bounds, image_behind, image_more}
use Rattle.fws_box_conditions.proofs.members.add_image.Goals as goal

pub overflow_sub-part : goal.overflow_sub-part
overflow_sub-part c =
    let s = c.parts-part-items.result.now in
    let d : Iv = record { lo = 0; hi = 0 } in
    let lt : c.loop-part.part-index < length s = omega arith in
    let b = image_bounds s c.args.image.now c.loop-part.part-index d c.args.base c.args.start c.parts-part-items.ensures.value c.parts-part-items.ensures.regular lt c.requires.above c.requires.fits in
    b.0

pub overflow_add-start : goal.overflow_add-start
overflow_add-start c =
    let s = c.parts-part-items.result.now in
    let d : Iv = record { lo = 0; hi = 0 } in
    let lt : c.loop-part.part-index < length s = omega arith in
    let b = image_bounds s c.args.image.now c.loop-part.part-index d c.args.base c.args.start c.parts-part-items.ensures.value c.parts-part-items.ensures.regular lt c.requires.above c.requires.fits in
    omega (arith, b)

pub overflow_sub-part-in-loop-part : goal.overflow_sub-part-in-loop-part
overflow_sub-part-in-loop-part c =
    let s = c.parts-part-items.result.now in
    let d : Iv = record { lo = 0; hi = 0 } in
    let lt : c.loop-part.part-index < length s = omega arith in
    let b = image_bounds s c.args.image.now c.loop-part.part-index d c.args.base c.args.start c.parts-part-items.ensures.value c.parts-part-items.ensures.regular lt c.requires.above c.requires.fits in
    omega (arith, b)

pub overflow_add-start-in-loop-part : goal.overflow_add-start-in-loop-part
overflow_add-start-in-loop-part c =
    let s = c.parts-part-items.result.now in
    let d : Iv = record { lo = 0; hi = 0 } in
    let lt : c.loop-part.part-index < length s = omega arith in
    let b = image_bounds s c.args.image.now c.loop-part.part-index d c.args.base c.args.start c.parts-part-items.ensures.value c.parts-part-items.ensures.regular lt c.requires.above c.requires.fits in
    omega (arith, b)

pub extend-requires-clause-order : goal.extend-requires-clause-order
extend-requires-clause-order c =
    let s = c.parts-part-items.result.now in
    let d : Iv = record { lo = 0; hi = 0 } in
    let lt : c.loop-part.part-index < length s = omega arith in
    let b = image_bounds s c.args.image.now c.loop-part.part-index d c.args.base c.args.start c.parts-part-items.ensures.value c.parts-part-items.ensures.regular lt c.requires.above c.requires.fits in
    omega (arith, b)

pub extend-requires-clause-behind : goal.extend-requires-clause-behind
extend-requires-clause-behind c v h =
    let s = c.parts-part-items.result.now in
    let d : Iv = record { lo = 0; hi = 0 } in
    let lt : c.loop-part.part-index < length s = omega arith in
    let b = image_bounds s c.args.image.now c.loop-part.part-index d c.args.base c.args.start c.parts-part-items.ensures.value c.parts-part-items.ensures.regular lt c.requires.above c.requires.fits in
    image_behind s c.args.image.now c.loop-part.part-index d c.args.base c.args.start v (has c.args.out.now v) c.parts-part-items.ensures.value c.parts-part-items.ensures.regular lt b.0
    (λ e w i. c.requires.behind v w e i) (sym (c.loop-part.invariant v) ∙ h)

pub loop-part-preserved : goal.loop-part-preserved
loop-part-preserved c a =
    let s = c.parts-part-items.result.now in
    let d : Iv = record { lo = 0; hi = 0 } in
    let lt : c.loop-part.part-index < length s = omega arith in
    let b = image_bounds s c.args.image.now c.loop-part.part-index d c.args.base c.args.start c.parts-part-items.ensures.value c.parts-part-items.ensures.regular lt c.requires.above c.requires.fits in
    image_more s c.loop-part.part-index d c.args.base c.args.start a (has c.args.out.now a) (has c.loop-part.out a) (has c.extend.new.self a) lt b.0 b.1
    (c.loop-part.invariant a) (c.in_ok-extend.ensures.ok a)
