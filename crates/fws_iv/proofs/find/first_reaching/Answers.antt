use Rattle.std.proofs.Common.{nat_lt, ltb-true, ltb-false, arith, rules}
use Rattle.std.proofs.lemmas.List.Sorted.{IsPartitionPoint-from_clause, IsPartitionedBy-ltb}
use Rattle.fws_iv.proofs.Parts.{ends_rise, passed}
use Rattle.fws_iv.proofs.find.first_reaching.Goals as goal

pub returns-clause-reaches : goal.returns-clause-reaches
returns-clause-reaches c =
    let parted = IsPartitionedBy-ltb (λ x. x.hi) c.args.parts.now c.args.v (ends_rise 0 c.args.parts.now c.requires) in
    let point = IsPartitionPoint-from_clause (λ x. nat_lt x.hi c.args.v) _ _ c.partition_point.ensures.partitioned parted (λ a r q k. search rules) in
    λ d lt. ltb-false _ _ (point.1 c.partition_point.result d (omega arith) lt)

pub returns-clause-members : goal.returns-clause-members
returns-clause-members c =
    let parted = IsPartitionedBy-ltb (λ x. x.hi) c.args.parts.now c.args.v (ends_rise 0 c.args.parts.now c.requires) in
    let point = IsPartitionPoint-from_clause (λ x. nat_lt x.hi c.args.v) _ _ c.partition_point.ensures.partitioned parted (λ a r q k. search rules) in
    passed c.args.parts.now c.partition_point.result c.args.v (λ k d lt. ltb-true _ _ (point.0 k d (omega arith) lt))
