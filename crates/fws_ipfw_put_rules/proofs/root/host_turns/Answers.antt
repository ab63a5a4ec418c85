use Rattle.std.proofs.Common.{◌≡◌, ◌-◌, ◌++◌, Some, List, length, get_or, slice_get, refl, sym, ◌∙◌, ap}
use Rattle.std.proofs.lemmas.Option.{slice_get_read}
use Rattle.fws_tree.specs.declared.node.Kid.{Kid}
use Rattle.fws_ipfw_put_rules.specs.declared.turn.Turn.{Turn}
use Rattle.fws_ipfw_put_rules.specs.Turns.{last_turn}
use Rattle.fws_ipfw_put_rules.proofs.Listing.{some_kids}
use Rattle.fws_ipfw_put_rules.proofs.Rooting.{host_root}
use Rattle.fws_ipfw_put_rules.proofs.root.host_turns.Goals as goal

pub host_kid-requires : goal.host_kid-requires
host_kid-requires c =
    let plan = c.args.plan.now in
    let nodes = plan.nodes.now in
    some_kids c.args.kids.now (c.cut_nodes_part_values.ensures plan.tree.now.0 plan.tree.now.1 plan.leaves.now nodes (length nodes - 1) 0 c.args.kids.now c.requires.planned.shared c.requires.cut)

pub returns : goal.returns
returns c =
    let plan = c.args.plan.now in
    let kids = c.args.kids.now in
    let at = c.host_kid.result in
    let kid = c.index-kids-host_kid.result in
    let there : slice_get kids at ≡ Some kid = slice_get_read kids (length kids) at kid refl c.host_kid.ensures.within c.index-kids-host_kid.is in
    host_root c.cut_nodes_part_values.ensures plan.site.now plan.tree.now.0 plan.section.now plan.tree.now.1 plan.leaves.now plan.nodes.now kids at kid c.put.new.self
    c.requires.planned c.requires.origin c.requires.cut there (λ any. c.host_kid.ensures.holds any kid there)
    (c.in_ok-put.ensures.ok ∙ ap (λ (l : List Turn). l ++ last_turn (get_or kids at kid)) c.new-turns.ensures ∙ ap (λ (k : Kid). last_turn k) (sym c.index-kids-host_kid.is))
