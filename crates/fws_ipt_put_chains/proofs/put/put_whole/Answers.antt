use Rattle.std.proofs.Common.{◌≡◌, ℕ, ◌+◌, ◌-◌, ◌<◌, ◌∷◌, [], List, length, sym, ◌∙◌, ap, subst, arith}
use Rattle.std.proofs.lemmas.List.{get_or_read}
use Rattle.std.proofs.lemmas.Result.{IfOk-weaker}
use Rattle.fws_ipt.specs.declared.config.IptGo.{IptGo}
use Rattle.fws_ipt.specs.declared.config.IptGo.TheVariants.{Drop}
use Rattle.fws_ipt_put_chains.specs.declared.verdict.Branch.{Branch}
use Rattle.fws_ipt_put_chains.specs.Comings.{AreComings}
use Rattle.fws_ipt_put_chains.specs.Planned.{ArePut}
use Rattle.fws_ipt_put_chains.specs.Rules.{act_at}
use Rattle.fws_ipt_put_chains.proofs.Ended.{whole_put}
use Rattle.fws_ipt_put_chains.proofs.Sight.{WholeSight}
use Rattle.fws_ipt_put_chains.proofs.put.put_whole.Goals as goal

pub returns : goal.returns
returns c =
    let sight : WholeSight = record {
      points = record { told = c.reached_values_are_told.ensures; topped = c.seen_points_are_topped.ensures };
      leaves = c.leaf_nodes_are_leaves.ensures;
      cuts = c.cut_nodes_part_values.ensures;
    } in
    let plan = c.args.plan.now in
    let nodes = c.args.nodes.now in
    let acts = c.in_ok-acts.acts.items in
    let last : ℕ = length nodes - 1 in
    let one : ℕ → IptGo → List Branch = λ top go. record { entries = record { lo = 0; hi = top } ∷ []; go = go } ∷ [] in
    let P : List Branch → Type 0 = λ branches. branches ≡ one (c.len.result + 1) c.index.result.now in
    let Q : List Branch → Type 0 = λ branches. ArePut plan.site.now plan.tree.now.0 plan.tree.now.1 plan.table plan.seen plan.least c.args.chains.now c.put_nodes.new.chains branches in
    let comes : AreComings nodes c.deref.result.now = subst (λ l. AreComings nodes l) (sym c.deref.ensures.value) c.in_ok-all.ensures in
    let some = c.requires.planned.shared.some in
    let count = c.in_ok-acts.ensures.count in
    let lt : last < length acts = omega (arith, some, count) in
    let go : c.index.result.now ≡ act_at acts last = get_or_read acts last c.index.result.now lt c.index.ensures Drop in
    let top : c.len.result + 1 ≡ length plan.site.now.faces + 1 = ap (λ n. n + 1) c.len.ensures in
    let put : Q (one (length plan.site.now.faces + 1) (act_at acts last)) = whole_put sight plan.site.now plan.tree.now.0 plan.tree.now.1 plan.table plan.front.now plan.seen plan.least c.args.chains.now c.put_nodes.new.chains c.args.leaves.now nodes c.deref.result.now acts
    c.requires.planned comes c.requires.keeps c.in_ok-acts.ensures.block c.in_ok-acts.ensures.acts count in
    IfOk-weaker _ P Q (λ branches e. subst Q (sym (e ∙ ap (λ n. one n c.index.result.now) top ∙ ap (λ g. one (length plan.site.now.faces + 1) g) go)) put) c.whole_branch.ensures
