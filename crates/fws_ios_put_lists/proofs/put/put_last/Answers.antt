use Rattle.std.proofs.Common.{◌-◌, length, sym, subst}
use Rattle.fws_ios_put_entries.specs.declared.path.Path.{Path}
use Rattle.fws_ios_put_lists.specs.Blocks.{scene, IsPathTo, Scene}
use Rattle.fws_ios_put_lists.proofs.Listing.{nothing_path}
use Rattle.fws_ios_put_lists.proofs.put.put_last.Goals as goal

pub put_node-requires-clause-good : goal.put_node-requires-clause-good
put_node-requires-clause-good c =
    let sheet = c.args.sheet.now in
    let s : Scene = scene sheet.tree.now.0 sheet.tree.now.1 sheet.leaves.now sheet.nodes.now in
    subst (λ (p : Path). IsPathTo s (length s.nodes - 1) p) (sym c.whole_path.ensures) (nothing_path s (length s.nodes - 1))
