use Rattle.std.proofs.Common.{not, sym, ◌∙◌, ap}
use Rattle.fws_ios_put_sources.proofs.Leaves.{sets_apart}
use Rattle.fws_ios_put_sources.proofs.parting.are_apart.Goals as goal

pub returns : goal.returns
returns c =
    λ e. sets_apart c.args.first.now.0 c.args.first.now.1 c.args.second.now.1 c.in_ok-both.both c.shared.result.leaves.now c.shared.result.nodes.now
    c.in_ok-both.ensures.value c.shared.ensures (ap not (sym c.has_true.ensures) ∙ e)
