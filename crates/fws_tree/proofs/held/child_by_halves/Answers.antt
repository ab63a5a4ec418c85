use Rattle.std.proofs.Common.{ℕ, ◌<◌, ◌≤◌, length, nat_lt, ltb-true, ltb-false, arith, rules}
use Rattle.std.proofs.lemmas.List.Sorted.{IsPartitionPoint-from_clause, IsPartitionedBy-ltb}
use Rattle.fws_tree.specs.declared.store.Step.{Step}
use Rattle.fws_tree.proofs.Touching.{child_there, child_past}
use Rattle.fws_tree.proofs.held.child_by_halves.Goals as goal

pub returns-then-at-steps : goal.returns-then-at-steps
returns-then-at-steps c =
    let d : Step = record { hi = 0; node = 0 } in
    let bound : c.partition_point-at.result ≤ length c.args.steps.now = c.partition_point-at.ensures.bound in
    let inside : c.partition_point-at.result < length c.args.steps.now = c.if-at-steps.true in
    let parted = IsPartitionedBy-ltb (λ s. s.hi) c.args.steps.now c.args.x c.requires in
    let point = IsPartitionPoint-from_clause (λ s. nat_lt s.hi c.args.x) _ _ c.partition_point-at.ensures.partitioned parted (λ a r q k. search rules) in
    child_there c.args.steps.now c.args.last c.args.x c.partition_point-at.result d inside
    (λ k lt. ltb-true _ _ (point.0 k d (omega arith) lt)) (ltb-false _ _ (point.1 c.partition_point-at.result d (omega arith) inside))

pub returns : goal.returns
returns c =
    let d : Step = record { hi = 0; node = 0 } in
    let past = c.if-at-steps.false in
    let bound : c.partition_point-at.result ≤ length c.args.steps.now = c.partition_point-at.ensures.bound in
    let parted = IsPartitionedBy-ltb (λ s. s.hi) c.args.steps.now c.args.x c.requires in
    let point = IsPartitionPoint-from_clause (λ s. nat_lt s.hi c.args.x) _ _ c.partition_point-at.ensures.partitioned parted (λ a r q k. search rules) in
    child_past c.args.steps.now c.args.last c.args.x d (λ k lt. let l : k < c.partition_point-at.result = omega arith in ltb-true _ _ (point.0 k d (omega arith) l))
