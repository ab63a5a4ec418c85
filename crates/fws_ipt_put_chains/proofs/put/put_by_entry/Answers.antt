use Rattle.std.proofs.Common.{◌≡◌, ◌-◌, ◌<◌, List, length, sym, ◌∙◌, ap, subst, arith}
use Rattle.std.proofs.lemmas.List.Elements.{All-from_recursion}
use Rattle.std.proofs.lemmas.Result.{IfOk-weaker}
use Rattle.std.specs.Prelude.{map}
use Rattle.fws_ipt.specs.declared.config.IptGo.{IptGo}
use Rattle.fws_tree.specs.declared.node.Kid.{Kid}
use Rattle.fws_ipt_put_chains.specs.declared.verdict.Branch.{Branch}
use Rattle.fws_ipt_put_chains.specs.Acts.{branch_of}
use Rattle.fws_ipt_put_chains.specs.Comings.{AreComings}
use Rattle.fws_ipt_put_chains.specs.Planned.{ArePut}
use Rattle.fws_ipt_put_chains.proofs.Ended.{entry_put}
use Rattle.fws_ipt_put_chains.proofs.Sight.{WholeSight}
use Rattle.fws_ipt_put_chains.proofs.put.put_by_entry.Goals as goal

pub kid_branches-requires : goal.kid_branches-requires
kid_branches-requires c = λ k d lt.
    let nodes = c.args.nodes.now in
    let below = All-from_recursion (λ (kid : Kid). kid.node < length nodes - 1) c.args.kids.now (c.cut_nodes_part_values.ensures c.args.plan.now.tree.now.0 c.args.plan.now.tree.now.1 c.args.leaves.now nodes (length nodes - 1) 0 c.args.kids.now c.requires.planned.shared c.requires.cut).before k d lt in
    let size = ap (λ (l : List IptGo). length l) c.deref-2.ensures.value in
    let count = c.in_ok-acts.ensures.count in
    omega (arith, below, size, count)

pub returns : goal.returns
returns c =
    let sight : WholeSight = record {
      points = record { told = c.reached_values_are_told.ensures; topped = c.seen_points_are_topped.ensures };
      leaves = c.leaf_nodes_are_leaves.ensures;
      cuts = c.cut_nodes_part_values.ensures;
    } in
    let plan = c.args.plan.now in
    let nodes = c.args.nodes.now in
    let kids = c.args.kids.now in
    let acts = c.in_ok-acts.acts.items in
    let P : List Branch → Type 0 = λ branches. branches ≡ map (branch_of c.deref-2.result.now) kids in
    let Q : List Branch → Type 0 = λ branches. ArePut plan.site.now plan.tree.now.0 plan.tree.now.1 plan.table plan.seen plan.least c.args.chains.now c.put_nodes.new.chains branches in
    let comes : AreComings nodes c.deref.result.now = subst (λ l. AreComings nodes l) (sym c.deref.ensures.value) c.in_ok-all.ensures in
    let put : Q (map (branch_of acts) kids) = entry_put sight plan.site.now plan.tree.now.0 plan.tree.now.1 plan.table plan.front.now plan.seen plan.least c.args.chains.now c.put_nodes.new.chains c.args.leaves.now nodes c.deref.result.now acts kids
    c.requires.planned comes c.requires.cut c.in_ok-acts.ensures.block c.in_ok-acts.ensures.acts c.in_ok-acts.ensures.count in
    IfOk-weaker _ P Q (λ branches e. subst Q (sym (e ∙ ap (λ l. map (branch_of l) kids) c.deref-2.ensures.value)) put) c.kid_branches.ensures
