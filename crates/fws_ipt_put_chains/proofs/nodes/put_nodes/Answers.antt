use Rattle.std.proofs.Common.{◌≡◌, ℕ, ◌<◌, ◌∷◌, [], false, Some, List, length, get_or, slice_get, refl, sym, ◌∙◌, ap, subst, arith, length-append}
use Rattle.std.proofs.lemmas.Option.{slice_get_read}
use Rattle.std.proofs.lemmas.List.{get_or_default}
use Rattle.fws_net.specs.Points.{tops_of}
use Rattle.fws_ipt.specs.declared.config.IptGo.{IptGo}
use Rattle.fws_tree.specs.Shared.{IsShared}
use Rattle.fws_ipt_put_chains.specs.declared.coming.Coming.{Coming}
use Rattle.fws_ipt_put_chains.specs.Acts.{AreActs, IsFit, IsNodePut}
use Rattle.fws_ipt_put_chains.specs.Comings.{both, coming_at}
use Rattle.fws_ipt_put_chains.proofs.Made.{Scene, fit, node_made}
use Rattle.fws_ipt_put_chains.proofs.Sight.{Sight}
use Rattle.fws_ipt_put_chains.proofs.nodes.put_nodes.Goals as goal

pub put_node-requires-clause-fit : goal.put_node-requires-clause-fit
put_node-requires-clause-fit c =
    let sight : Sight = record {
      agree = c.seen_fields_agree.ensures;
      unseen = c.unseen_fields_are_open.ensures;
      left = c.left_sets_are_open.ensures;
      reached = c.open_kids_are_reached.ensures;
      leaves = c.leaf_nodes_are_leaves.ensures;
      cuts = c.cut_nodes_part_values.ensures;
    } in
    let plan = c.args.plan.now in
    let leaves = c.args.leaves.now in
    let nodes = c.args.nodes.now in
    let k : ℕ = c.loop-k.k in
    let node = c.index-nodes-k.result in
    let shared : IsShared (tops_of plan.site.now) plan.tree.now.1 leaves nodes = subst (λ l. IsShared l plan.tree.now.1 leaves nodes) c.requires.tops c.requires.shared in
    let lt : k < length nodes = omega (arith, c.requires.count) in
    let at : slice_get nodes k ≡ Some node = slice_get_read nodes (length nodes) k node refl lt c.index-nodes-k.is in
    let n : k ≡ length c.deref.result.now = sym (ap (λ (l : List IptGo). length l) c.deref.ensures.value ∙ c.loop-k.invariant.size) in
    subst (λ m. IsFit plan.seen leaves m node) n (fit sight plan.site.now plan.seen plan.tree.now.1 leaves nodes shared k node at)

pub loop-k-preserved : goal.loop-k-preserved
loop-k-preserved c =
    let sight : Sight = record {
      agree = c.seen_fields_agree.ensures;
      unseen = c.unseen_fields_are_open.ensures;
      left = c.left_sets_are_open.ensures;
      reached = c.open_kids_are_reached.ensures;
      leaves = c.leaf_nodes_are_leaves.ensures;
      cuts = c.cut_nodes_part_values.ensures;
    } in
    let plan = c.args.plan.now in
    let leaves = c.args.leaves.now in
    let nodes = c.args.nodes.now in
    let comings = c.args.comings.now in
    let k : ℕ = c.loop-k.k in
    let node = c.index-nodes-k.result in
    let inv = c.loop-k.invariant in
    let acts = c.loop-k.acts.items in
    let scene : Scene plan.site.now plan.seen plan.table plan.least c.args.chains.now plan.tree.now.1 comings leaves nodes = record {
      shared = subst (λ l. IsShared l plan.tree.now.1 leaves nodes) c.requires.tops c.requires.shared;
      marks = c.requires.marks;
      low = c.requires.least;
      other = c.requires.table;
      comes = c.requires.comings;
    } in
    let lt : k < length nodes = omega (arith, c.requires.count) in
    let at : slice_get nodes (length acts) ≡ Some node = ap (slice_get nodes) inv.size ∙ slice_get_read nodes (length nodes) k node refl lt c.index-nodes-k.is in
    let nothing : Coming = record { tcp = false; udp = false } in
    let P : Coming → List IptGo → Type 0 = λ d l. IsNodePut plan.table plan.seen leaves d l node c.loop-k.chains c.put_node.new.chains c.in_ok-go.go in
    let within : k < length comings = (let n = c.requires.comings.size in omega (arith, lt, n)) in
    let here : get_or comings k nothing ≡ coming_at comings (length acts) = get_or_default comings k nothing both within ∙ ap (coming_at comings) (sym inv.size) in
    let put : P (coming_at comings (length acts)) acts = subst (λ d. P d acts) here (subst (λ l. P (get_or comings k nothing) l) c.deref.ensures.value c.in_ok-go.ensures) in
    let made = node_made sight plan.site.now plan.seen plan.table plan.least c.args.chains.now plan.tree.now.1 comings leaves nodes scene c.loop-k.chains c.put_node.new.chains acts c.in_ok-go.go node at inv.block inv.acts put in
    record {
      size = (let e = ap (λ (l : List IptGo). length l) c.in_ok-push.ensures.items in let n = length-append acts (c.in_ok-go.go ∷ []) in let m = inv.size in omega arith);
      block = made.0;
      acts = subst (λ l. AreActs plan.site.now plan.seen plan.table plan.least (length c.args.chains.now) c.put_node.new.chains comings leaves nodes l) (sym c.in_ok-push.ensures.items) made.1;
    }
