use Rattle.fws_ios_put_lists.specs.Blocks.{scene, IsPlanned, Scene}
use Rattle.fws_ios_put_lists.proofs.Listing.{whole_list}
use Rattle.fws_ios_put_lists.proofs.put.put_list.Goals as goal

pub returns : goal.returns
returns c =
    let tree = c.args.tree.now in
    let s : Scene = scene tree.0 tree.1 c.shared-shared.result.leaves.now c.shared-shared.result.nodes.now in
    let planned : IsPlanned s = record { site = c.args.site.now; tops_are = c.requires.tops; shared = c.shared-shared.ensures } in
    let put = c.in_ok-put_all.ensures in
    (put.0, put.1, whole_list s c.args.site.now c.args.keep put.0 planned c.requires.tops c.requires.listed put.3 put.2)
