use Rattle.std.proofs.Common.{◌<◌, ◌≤◌, ◌+◌, ◌-◌, ◌%◌, ◌&&◌, ◌||◌, nat_le, ap, ◌∙◌, arith}
use Rattle.std.proofs.lemmas.Nat.{mod_below}
use Rattle.fws_iv.specs.Ivs.{has}
use Rattle.fws_box_conditions.proofs.Blocks.{range_more, next_bound}
use Rattle.fws_box_conditions.proofs.members.add_range.Goals as goal

pub returns-then-last-hi : goal.returns-then-last-hi
returns-then-last-hi c a =
    let set = c.args.set.now in
    let size = c.args.size in
    let from = c.loop-from.from in
    let last = c.last_in_block-last.result in
    let rest = mod_below from size c.requires.size in
    let some : from ≤ last = omega (arith, rest, c.last_in_block-last.ensures, c.loop-from.invariant.ahead) in
    let ends : last < from - from % size + size = omega (arith, rest, c.last_in_block-last.ensures) in
    range_more set c.args.base size c.args.lo from last a (has c.args.out.now a) (has c.loop-from.out a) (has c.add_block.new.out a)
    c.requires.size c.loop-from.invariant.behind some ends (c.loop-from.invariant.so_far a) (c.in_ok-add_block.ensures a)
    ∙ ap (λ l. has c.args.out.now a || ((nat_le c.args.lo a && nat_le a l) && has set (c.args.base + a % size))) c.if-last-hi.true

pub loop-from-preserved : goal.loop-from-preserved
loop-from-preserved c =
    let set = c.args.set.now in
    let size = c.args.size in
    let from = c.loop-from.from in
    let last = c.last_in_block-last.result in
    let rest = mod_below from size c.requires.size in
    let some : from ≤ last = omega (arith, rest, c.last_in_block-last.ensures, c.loop-from.invariant.ahead) in
    let ends : last < from - from % size + size = omega (arith, rest, c.last_in_block-last.ensures) in
    record {
      behind = omega (arith, some, c.loop-from.invariant.behind);
      ahead = omega (arith, c.last_in_block-last.ensures, c.if-last-hi.false);
      so_far = λ a.
          range_more set c.args.base size c.args.lo from last a (has c.args.out.now a) (has c.loop-from.out a) (has c.add_block.new.out a)
          c.requires.size c.loop-from.invariant.behind some ends (c.loop-from.invariant.so_far a) (c.in_ok-add_block.ensures a)
          ∙ ap (λ b. has c.args.out.now a || ((nat_le c.args.lo a && b) && has set (c.args.base + a % size))) (next_bound a last);
    }
