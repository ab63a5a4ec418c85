use Rattle.std.proofs.lemmas.Result.{IfOk-weaker}
use Rattle.fws_ios_put_sources.proofs.Gathered.{sources_told}
use Rattle.fws_ios_put_sources.proofs.addresses.addresses.Goals as goal

pub returns : goal.returns
returns c =
    let tree = c.args.crossing.now in
    let shared = c.shared.result in
    IfOk-weaker c.of_leaves.result _ _ (λ addrs h. sources_told addrs.keys tree.0 tree.1 shared.leaves.now shared.nodes.now c.shared.ensures h) c.of_leaves.ensures
