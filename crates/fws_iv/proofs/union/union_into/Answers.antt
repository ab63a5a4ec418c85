use Rattle.std.proofs.Common.{◌<◌, arith, length, List, ℕ}
use Rattle.fws_iv.specs.declared.iv.Iv.{Iv}
use Rattle.fws_iv.specs.Ivs.{has}
use Rattle.fws_iv.proofs.Parts.{sooner, regular_at, has_at}
use Rattle.fws_iv.proofs.Steps.{took_first, took_second}
use Rattle.fws_iv.proofs.union.union_into.Goals as goal

pub is_first-requires-clause-first : goal.is_first-requires-clause-first
is_first-requires-clause-first g c = sooner 0 _ _ (omega arith) c.loop-i.invariant.rest_a

pub is_first-requires-clause-second : goal.is_first-requires-clause-second
is_first-requires-clause-second g c = sooner 0 _ _ (omega arith) c.loop-i.invariant.rest_b

pub loop-i-preserved-then-is_first : goal.loop-i-preserved-then-is_first
loop-i-preserved-then-is_first g c =
    let nought : Iv = record { lo = 0; hi = 0 } in
    let a : List Iv = c.args.a.now in
    let i : ℕ = c.loop-i.i in
    let next = c.is_first.ensures.first c.if-is_first.true in
    let inside : i < length a = next.0 in
    let rest = regular_at _ a i nought inside c.loop-i.invariant.rest_a in
    let begun = c.in_ok-join_last.ensures.begun in
    record {
      in_a = omega arith;
      in_b = c.loop-i.invariant.in_b;
      made = c.in_ok-join_last.ensures.regular;
      rest_a = sooner _ _ _ (omega (arith, rest)) rest.2;
      rest_b = sooner _ _ _ begun (next.1 nought);
      members = λ v. took_first (has c.loop-i.out.items v) _ _ _ _ _ _ (c.loop-i.invariant.members v) (has_at a i nought v inside) (c.in_ok-join_last.ensures.members v);
    }

pub loop-i-preserved : goal.loop-i-preserved
loop-i-preserved g c =
    let nought : Iv = record { lo = 0; hi = 0 } in
    let b : List Iv = c.args.b.now in
    let j : ℕ = c.loop-i.j in
    let next = c.is_first.ensures.second c.if-is_first.false in
    let inside : j < length b = next.0 in
    let rest = regular_at _ b j nought inside c.loop-i.invariant.rest_b in
    let begun = c.in_ok-join_last-2.ensures.begun in
    record {
      in_a = c.loop-i.invariant.in_a;
      in_b = omega arith;
      made = c.in_ok-join_last-2.ensures.regular;
      rest_a = sooner _ _ _ begun (next.1 nought);
      rest_b = sooner _ _ _ (omega (arith, rest)) rest.2;
      members = λ v. took_second (has c.loop-i.out.items v) _ _ _ _ _ _ (c.loop-i.invariant.members v) (has_at b j nought v inside) (c.in_ok-join_last-2.ensures.members v);
    }
