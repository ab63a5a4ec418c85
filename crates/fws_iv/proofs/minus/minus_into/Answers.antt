use Rattle.std.proofs.Common.{◌≤◌, ◌<◌, ◌+◌, List, ℕ, arith, length, drop, slice_index_or}
use Rattle.fws_iv.specs.declared.iv.Iv.{Iv}
use Rattle.fws_iv.specs.Ivs.{has, in_part, past}
use Rattle.fws_iv.proofs.Parts.{sooner, regular-drop, regular_at, has_at, has-from}
use Rattle.fws_iv.proofs.Steps.{cut_within, cut_over, uncut, cut_after, within_after, after_at, carried_within, carried_over, carried_uncut}
use Rattle.fws_iv.proofs.minus.minus_into.Goals as goal

abbrev nought : Iv
nought = record { lo = 0; hi = 0 }

pub begins_by-requires : goal.begins_by-requires
begins_by-requires g c = sooner 0 _ _ (omega arith) c.loop-i.invariant.rest_b

pub loop-i-preserved-then-y-x : goal.loop-i-preserved-then-y-x
loop-i-preserved-then-y-x g c =
    let a : List Iv = c.args.a.now in
    let b : List Iv = c.args.b.now in
    let i : ℕ = c.loop-i.i in
    let j : ℕ = c.loop-i.j in
    let in_a : i < length a = c.loop-i-test.true in
    let cut = c.begins_by.ensures.yes c.if-begins_by.true in
    let in_b : j < length b = cut.0 in
    let begins : (slice_index_or b j nought).lo ≤ (slice_index_or a i nought).hi = cut.1 nought in
    let here = regular_at 0 a i nought in_a (regular-drop 0 a i c.requires.first) in
    let there = regular_at _ b j nought in_b c.loop-i.invariant.rest_b in
    record {
      in_a = c.loop-i.invariant.in_a;
      in_b = omega arith;
      made = c.in_ok-put_below.ensures.regular;
      rest_b = sooner _ _ _ (omega arith) there.2;
      after = within_after (past 0 c.loop-i.out.items) _ (slice_index_or b j nought).lo _ c.loop-i.from _ (drop i a) (omega (arith, there)) (omega (arith, there)) c.in_ok-put_below.ensures.some c.in_ok-put_below.ensures.none c.loop-i.invariant.after;
      members = λ v. carried_within (has c.loop-i.out.items v) _ _ _ _ _ _ (in_part (slice_index_or a i nought) v) (in_part (slice_index_or b j nought) v) (has (drop (i + 1) a) v) (has (drop (j + 1) b) v) _ (c.loop-i.invariant.members v) (has_at a i nought v in_a) (has_at b j nought v in_b) (c.in_ok-put_below.ensures.members v)
          (cut_within (has c.loop-i.out.items v) (has (drop (i + 1) a) v) (has (drop (j + 1) b) v) (slice_index_or a i nought) (slice_index_or b j nought) v c.loop-i.from c.start.result c.start.ensures
          there.0 there.1 c.if-y-x.true (has-from _ _ here.2 v) (has-from _ _ there.2 v));
    }

pub loop-i-preserved-else-y-x : goal.loop-i-preserved-else-y-x
loop-i-preserved-else-y-x g c =
    let a : List Iv = c.args.a.now in
    let b : List Iv = c.args.b.now in
    let i : ℕ = c.loop-i.i in
    let j : ℕ = c.loop-i.j in
    let in_a : i < length a = c.loop-i-test.true in
    let cut = c.begins_by.ensures.yes c.if-begins_by.true in
    let in_b : j < length b = cut.0 in
    let begins : (slice_index_or b j nought).lo ≤ (slice_index_or a i nought).hi = cut.1 nought in
    let here = regular_at 0 a i nought in_a (regular-drop 0 a i c.requires.first) in
    let there = regular_at _ b j nought in_b c.loop-i.invariant.rest_b in
    record {
      in_a = omega arith;
      in_b = c.loop-i.invariant.in_b;
      made = c.in_ok-put_below.ensures.regular;
      rest_b = c.loop-i.invariant.rest_b;
      after = cut_after (past 0 c.loop-i.out.items) _ (slice_index_or b j nought).lo _ c.loop-i.from (slice_index_or a i nought) _ (omega arith) c.in_ok-put_below.ensures.some c.in_ok-put_below.ensures.none here.1 here.2
          (after_at _ a i nought _ in_a c.loop-i.invariant.after);
      members = λ v. carried_over (has c.loop-i.out.items v) _ _ _ _ _ (in_part (slice_index_or a i nought) v) (in_part (slice_index_or b j nought) v) (has (drop (i + 1) a) v) (has (drop (j + 1) b) v) _ (c.loop-i.invariant.members v) (has_at a i nought v in_a) (has_at b j nought v in_b) (c.in_ok-put_below.ensures.members v)
          (cut_over (has c.loop-i.out.items v) (has (drop (i + 1) a) v) (has (drop (j + 1) b) v) (slice_index_or a i nought) (slice_index_or b j nought) v c.loop-i.from c.start.result c.start.ensures
          there.0 begins c.if-y-x.false (has-from _ _ here.2 v) (has-from _ _ there.2 v));
    }

pub loop-i-preserved : goal.loop-i-preserved
loop-i-preserved g c =
    let a : List Iv = c.args.a.now in
    let b : List Iv = c.args.b.now in
    let i : ℕ = c.loop-i.i in
    let j : ℕ = c.loop-i.j in
    let in_a : i < length a = c.loop-i-test.true in
    let apart = c.begins_by.ensures.no c.if-begins_by.false in
    let here = regular_at 0 a i nought in_a (regular-drop 0 a i c.requires.first) in
    record {
      in_a = omega arith;
      in_b = c.loop-i.invariant.in_b;
      made = c.in_ok-put_below-2.ensures.regular;
      rest_b = c.loop-i.invariant.rest_b;
      after = cut_after (past 0 c.loop-i.out.items) _ ((slice_index_or a i nought).hi + 1) _ c.loop-i.from (slice_index_or a i nought) _ (omega arith) c.in_ok-put_below-2.ensures.some c.in_ok-put_below-2.ensures.none here.1 here.2
          (after_at _ a i nought _ in_a c.loop-i.invariant.after);
      members = λ v. carried_uncut (has c.loop-i.out.items v) _ _ _ _ _ (in_part (slice_index_or a i nought) v) (has (drop (i + 1) a) v) _ (c.loop-i.invariant.members v) (has_at a i nought v in_a) (c.in_ok-put_below-2.ensures.members v)
          (uncut (has c.loop-i.out.items v) (has (drop (i + 1) a) v) (has (drop j b) v) (slice_index_or a i nought) v c.loop-i.from c.start-else-begins_by.result c.start-else-begins_by.ensures
          (has-from _ _ here.2 v) (has-from _ _ apart v));
    }
