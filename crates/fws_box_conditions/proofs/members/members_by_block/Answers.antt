use Rattle.std.proofs.Common.{◌<◌, ◌+◌, ◌%◌, length, take, sym, ◌∙◌, arith}
use Rattle.std.proofs.lemmas.Bool.{and_parts}
use Rattle.fws_iv.specs.declared.iv.Iv.{Iv}
use Rattle.fws_iv.specs.Ivs.{has}
use Rattle.fws_box_conditions.proofs.Blocks.{ordered_at, starts_behind}
use Rattle.fws_box_conditions.proofs.members.members_by_block.Goals as goal

pub add_range-requires-clause-order : goal.add_range-requires-clause-order
add_range-requires-clause-order c =
    let s = c.args.side.now in
    let d : Iv = record { lo = 0; hi = 0 } in
    let lt : c.loop-part.part-index < length s = omega arith in
    ordered_at 0 s c.loop-part.part-index d c.requires.side lt

pub add_range-requires-clause-behind : goal.add_range-requires-clause-behind
add_range-requires-clause-behind c a h =
    let s = c.args.side.now in
    let d : Iv = record { lo = 0; hi = 0 } in
    let lt : c.loop-part.part-index < length s = omega arith in
    let both = and_parts (has (take c.loop-part.part-index s) a) (has c.args.set.now (c.args.base + a % c.args.size)) (sym (c.loop-part.invariant a) ∙ h) in
    starts_behind 0 s c.loop-part.part-index d a c.requires.side lt both.0
