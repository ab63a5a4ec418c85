use Rattle.std.proofs.Common.{ℕ, List, ◌≡◌, [], ◌-◌, ◌∙◌, refl, ap, length, get_or}
use Rattle.fws_tree.specs.Held.{held_at}
use Rattle.fws_tree.specs.Plain.{Plain, value}
use Rattle.fws_tree.proofs.Settling.{IsRooted, rooted_from, rooted_places, settled_shared, finished_value}
use Rattle.fws_tree.proofs.finish.finish.Given.{Over}
use Rattle.fws_tree.proofs.finish.finish.Goals as goal

rooted : (g : Over) (c : goal.In_ok-nodes g) → IsRooted c.args.tops.now c.args.leaves.now c.in_ok-nodes.nodes × (c.in_ok-nodes.ensures.root.0 ≡ length c.in_ok-nodes.nodes - 1)
rooted g c = let shown = c.in_ok-nodes.ensures.root.1 in
    rooted_from c.args.tops.now c.args.leaves.now [] c.in_ok-nodes.nodes c.in_ok-nodes.nodes c.in_ok-nodes.ensures.root.0 (λ p. get_or c.args.places.now (held_at c.args.store.now c.args.at p) 0)
    refl refl c.in_ok-nodes.ensures.arena shown.inside c.in_ok-nodes.ensures.root.2 shown.reduced c.requires.different shown.value c.requires.places

rooted_settled : (g : Over) (c : goal.In_ok-settled g) → IsRooted c.args.tops.now c.args.leaves.now c.in_ok-nodes.nodes × (c.in_ok-nodes.ensures.root.0 ≡ length c.in_ok-nodes.nodes - 1)
rooted_settled g c = let shown = c.in_ok-nodes.ensures.root.1 in
    rooted_from c.args.tops.now c.args.leaves.now [] c.in_ok-nodes.nodes c.in_ok-nodes.nodes c.in_ok-nodes.ensures.root.0 (λ p. get_or c.args.places.now (held_at c.args.store.now c.args.at p) 0)
    refl refl c.in_ok-nodes.ensures.arena shown.inside c.in_ok-nodes.ensures.root.2 shown.reduced c.requires.different shown.value c.requires.places

pub settle-requires : goal.settle-requires
settle-requires g c = rooted_places c.args.tops.now c.args.leaves.now c.in_ok-nodes.nodes (rooted g c).0

pub from_nodes-requires : goal.from_nodes-requires
from_nodes-requires g c = settled_shared c.args.tops.now c.args.leaves.now c.in_ok-settled.settled.leaves c.in_ok-nodes.nodes c.in_ok-settled.settled.nodes (rooted_settled g c).0 c.in_ok-settled.ensures

pub returns-clause-value : goal.returns-clause-value
returns-clause-value g c = let shown = c.in_ok-nodes.ensures.root.1 in
    let r = rooted_from c.args.tops.now c.args.leaves.now [] c.in_ok-nodes.nodes c.in_ok-nodes.nodes c.in_ok-nodes.ensures.root.0 (λ p. get_or c.args.places.now (held_at c.args.store.now c.args.at p) 0)
    refl refl c.in_ok-nodes.ensures.arena shown.inside c.in_ok-nodes.ensures.root.2 shown.reduced c.requires.different shown.value c.requires.places in
    λ p w. ap (λ (t : List ℕ × Plain _). value t.1 p) c.from_nodes.ensures
    ∙ finished_value c.args.tops.now c.args.leaves.now c.in_ok-settled.settled.leaves c.in_ok-nodes.nodes c.in_ok-nodes.nodes c.in_ok-settled.settled.nodes c.in_ok-nodes.ensures.root.0 _ p
    refl r.0 r.1 c.in_ok-settled.ensures (shown.value p w)
