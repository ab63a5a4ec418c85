use Rattle.std.proofs.Common.{◌<◌, List, ℕ, arith, length, slice_index_or}
use Rattle.fws_iv.specs.declared.iv.Iv.{Iv}
use Rattle.fws_iv.specs.Ivs.{has}
use Rattle.fws_iv.proofs.Parts.{regular-drop, regular_at, has_at, has_below, in_part-true}
use Rattle.fws_iv.proofs.Steps.{met, met_first, met_second, met_after, after_at, swapped}
use Rattle.fws_iv.proofs.inter.inter_into.Goals as goal

abbrev nought : Iv
nought = record { lo = 0; hi = 0 }

pub loop-i-preserved-then-x-y : goal.loop-i-preserved-then-x-y
loop-i-preserved-then-x-y g c =
    let a : List Iv = c.args.a.now in
    let b : List Iv = c.args.b.now in
    let i : ℕ = c.loop-i.i in
    let j : ℕ = c.loop-i.j in
    let in_a : i < length a = c.loop-i-test.true in
    let in_b : j < length b = c.if-j-b.true in
    let here = regular_at 0 a i nought in_a (regular-drop 0 a i c.requires.first) in
    let there = regular_at 0 b j nought in_b (regular-drop 0 b j c.requires.second) in
    record {
      in_a = omega arith;
      in_b = c.loop-i.invariant.in_b;
      made = c.in_ok-put_below.ensures.regular;
      after = met_after _ _ _ _ (slice_index_or a i nought) _ _ (omega arith) c.in_ok-put_below.ensures.some c.in_ok-put_below.ensures.none here.1 here.2
          (after_at _ a i nought _ in_a c.loop-i.invariant.after);
      members = λ v. met_first (has c.loop-i.out.items v) _ _ _ _ _ _ _ _ _ (c.loop-i.invariant.members v) (has_at a i nought v in_a) (has_at b j nought v in_b)
          (λ t. let p = in_part-true (slice_index_or a i nought) v t in has_below _ _ there.2 v (omega (arith, p)))
          (c.in_ok-put_below.ensures.members v) (met (slice_index_or a i nought) (slice_index_or b j nought) v _ _ c.larger.ensures c.smaller.ensures);
    }

pub loop-i-preserved : goal.loop-i-preserved
loop-i-preserved g c =
    let a : List Iv = c.args.a.now in
    let b : List Iv = c.args.b.now in
    let i : ℕ = c.loop-i.i in
    let j : ℕ = c.loop-i.j in
    let in_a : i < length a = c.loop-i-test.true in
    let in_b : j < length b = c.if-j-b.true in
    let here = regular_at 0 a i nought in_a (regular-drop 0 a i c.requires.first) in
    let there = regular_at 0 b j nought in_b (regular-drop 0 b j c.requires.second) in
    record {
      in_a = c.loop-i.invariant.in_a;
      in_b = omega arith;
      made = c.in_ok-put_below.ensures.regular;
      after = swapped (met_after _ _ _ _ (slice_index_or b j nought) _ _ (omega arith) c.in_ok-put_below.ensures.some c.in_ok-put_below.ensures.none there.1 there.2
          (after_at _ b j nought _ in_b (swapped c.loop-i.invariant.after)));
      members = λ v. met_second (has c.loop-i.out.items v) _ _ _ _ _ _ _ _ _ (c.loop-i.invariant.members v) (has_at a i nought v in_a) (has_at b j nought v in_b)
          (λ t. let p = in_part-true (slice_index_or b j nought) v t in has_below _ _ here.2 v (omega (arith, p)))
          (c.in_ok-put_below.ensures.members v) (met (slice_index_or a i nought) (slice_index_or b j nought) v _ _ c.larger.ensures c.smaller.ensures);
    }
