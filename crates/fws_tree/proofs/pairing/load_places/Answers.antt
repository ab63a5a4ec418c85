use Rattle.std.proofs.Common.{◌-◌, length}
use Rattle.std.proofs.lemmas.Result.{IfOk-weaker}
use Rattle.fws_tree.specs.Held.{held_at}
use Rattle.fws_tree.specs.Plain.{value}
use Rattle.fws_tree.specs.Shared.{subtree_of}
use Rattle.fws_tree.proofs.MetPairs.{place_of_loaded}
use Rattle.fws_tree.proofs.pairing.load_places.Goals as goal

pub returns-clause-held : goal.returns-clause-held
returns-clause-held g c = IfOk-weaker c.load.result _ _ (λ r is p w.
    let z = is p w in
    let m = place_of_loaded c.args.tree.now.leaves.now (value (subtree_of c.args.tree.now.leaves.now c.args.tree.now.nodes.now (length c.args.tree.now.nodes.now - 1)) p) (held_at c.load.new.store r p) z.0
    c.in_ok-places.places.items c.as_slice.result.now z.1 z.2 z.3 c.as_slice.ensures.value c.in_ok-places.ensures in
    (m.leaf, m.is, m.at)) c.load.ensures.loaded
