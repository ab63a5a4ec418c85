use Rattle.std.proofs.Common.{List, sym, subst}
use Rattle.fws_pf_put_nat.specs.declared.ends.Ends.{Ends}
use Rattle.fws_pf_put_nat.specs.Scenes.{scene, Scene}
use Rattle.fws_pf_put_nat.specs.Ends.{AreEnds}
use Rattle.fws_pf_put_nat.proofs.Ending.{plan_made}
use Rattle.fws_pf_put_nat.proofs.put.put_translations.Goals as goal

pub put_all-requires-clause-planned : goal.put_all-requires-clause-planned
put_all-requires-clause-planned c =
    let plan = c.args.plan.now in
    let s : Scene = scene plan.site.now plan.tree.now.0 plan.tree.now.1 plan.leaves.now plan.nodes.now plan.states.now plan.outward c.as_slice.result.now c.start_of-start.result in
    let ends : AreEnds plan.outward plan.leaves.now plan.nodes.now c.as_slice.result.now = subst (λ (l : List Ends). AreEnds plan.outward plan.leaves.now plan.nodes.now l) (sym c.as_slice.ensures.value) c.in_ok-ends.ensures in
    plan_made (record { leaf = c.leaf_nodes_are_leaves.ensures; cut = c.cut_nodes_part_values.ensures }) s c.requires.tops c.requires.shared c.requires.told c.requires.states c.requires.ports c.requires.one c.requires.bare ends
    c.start_of-start.ensures
