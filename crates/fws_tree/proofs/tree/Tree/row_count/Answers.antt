use Rattle.std.proofs.Common.{◌-◌, ◌<◌, length, ◌∙◌, arith}
use Rattle.std.proofs.lemmas.List.{get_or_default}
use Rattle.fws_tree.proofs.PathCounting.{rows_counted}
use Rattle.fws_tree.proofs.tree.Tree.row_count.Goals as goal

pub returns : goal.returns
returns g c =
    let nodes = c.shared-shared.result.nodes.now in
    let found = c.shared-shared.ensures.some in
    let many = c.in_ok-counts.ensures.many in
    let lt : length nodes - 1 < length c.in_ok-counts.counts.items = omega arith in
    rows_counted c.args.self.now.0 c.args.self.now.1 c.shared-shared.result.leaves.now nodes c.in_ok-counts.counts.items c.index.result.now c.shared-shared.ensures many c.in_ok-counts.ensures.counted
    (c.index.ensures ∙ get_or_default c.in_ok-counts.counts.items (length nodes - 1) c.index.result.now 0 lt)
