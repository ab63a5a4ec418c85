use Rattle.std.proofs.Common.{◌+◌, ◌-◌, List, length, subst}
use Rattle.std.proofs.lemmas.Result.{IfOk-weaker}
use Rattle.fws_ipfw_put_rules.specs.declared.turn.Turn.{Turn}
use Rattle.fws_ipfw_put_rules.specs.Blocks.{AreRootTurns}
use Rattle.fws_ipfw_put_rules.specs.Turns.{AreEntries, AreKidTurns, AreTurns}
use Rattle.fws_ipfw_put_rules.proofs.Listing.{some_kids}
use Rattle.fws_ipfw_put_rules.proofs.Rooting.{arriving_root}
use Rattle.fws_ipfw_put_rules.proofs.root.arriving_turns.Goals as goal

pub entry_turns-requires-clause-some : goal.entry_turns-requires-clause-some
entry_turns-requires-clause-some c =
    let plan = c.args.plan.now in
    let nodes = plan.nodes.now in
    some_kids c.args.kids.now (c.cut_nodes_part_values.ensures plan.tree.now.0 plan.tree.now.1 plan.leaves.now nodes (length nodes - 1) 0 c.args.kids.now c.requires.planned.shared c.requires.cut)

pub returns : goal.returns
returns c =
    let plan = c.args.plan.now in
    let kids = c.args.kids.now in
    let P : List Turn → Type 0 = λ turns. AreTurns (AreKidTurns (AreEntries (c.len.result + 1))) kids turns in
    let Q : List Turn → Type 0 = λ turns. AreRootTurns plan.site.now plan.tree.now.0 plan.section.now plan.tree.now.1 plan.leaves.now plan.nodes.now turns in
    IfOk-weaker _ P Q (λ turns made. arriving_root c.cut_nodes_part_values.ensures plan.site.now plan.tree.now.0 plan.section.now plan.tree.now.1 plan.leaves.now plan.nodes.now kids turns
    c.requires.planned c.requires.origin c.requires.cut (subst (λ n. AreTurns (AreKidTurns (AreEntries (n + 1))) kids turns) c.len.ensures made)) c.entry_turns.ensures
