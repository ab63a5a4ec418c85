use Rattle.fws_place.proofs.Apartness.{leaves_among}
use Rattle.fws_place.proofs.apart.apart.Goals as goal

pub apart_among-requires : goal.apart_among-requires
apart_among-requires g c =
    leaves_among c.args.tree.now.0 c.args.tree.now.1 c.shared.result.leaves.now c.in_ok-kept.kept.keys c.shared.result.nodes.now c.shared.ensures c.in_ok-kept.ensures
