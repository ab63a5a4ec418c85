use Rattle.std.proofs.Common.{rules, nat_lt, arith}
use Rattle.std.proofs.lemmas.Bool.{ltb-true, ltb-false}
use Rattle.std.proofs.lemmas.List.Sorted.{IsPartitionedBy-ltb, IsPartitionPoint-from_clause}
use Rattle.std.specs.List.Sorted.{IsPartitionedBy}
use Rattle.fws_ipfw.specs.declared.config.IpfwRule.{IpfwRule}
use Rattle.fws_ipfw_ifcl.proofs.layout.count_below.Goals as goal

pub returns-clause-below : goal.returns-clause-below
returns-clause-below c k d lt =
    let all = c.args.rules.now in
    let n = c.args.n in
    let test = λ (r : IpfwRule). nat_lt r.number n in
    let parted : IsPartitionedBy test all = IsPartitionedBy-ltb (λ (r : IpfwRule). r.number) all n c.requires in
    let at = IsPartitionPoint-from_clause test all _ c.partition_point.ensures.partitioned parted (λ a r f q. search rules) in
    ltb-true _ n (at.0 k d (omega arith) lt)

pub returns-clause-above : goal.returns-clause-above
returns-clause-above c k d from lt =
    let all = c.args.rules.now in
    let n = c.args.n in
    let test = λ (r : IpfwRule). nat_lt r.number n in
    let parted : IsPartitionedBy test all = IsPartitionedBy-ltb (λ (r : IpfwRule). r.number) all n c.requires in
    let at = IsPartitionPoint-from_clause test all _ c.partition_point.ensures.partitioned parted (λ a r f q. search rules) in
    ltb-false _ n (at.1 k d from lt)
