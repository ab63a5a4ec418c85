use Rattle.std.proofs.Common.{◌≡◌, ℕ, [], Some, slice_get, inl, refl, sym, ◌∙◌, ap, append-nil}
use Rattle.std.proofs.lemmas.Option.{slice_get-get_or}
use Rattle.fws_tree.specs.declared.node.Node.TheVariants.{Leaf}
use Rattle.fws_pf_put_filter.proofs.Stating.{not_cut}
use Rattle.fws_pf_put_filter.proofs.nodes.put_node.Goals as goal

pub returns-in-Leaf-clause-rules : goal.returns-in-Leaf-clause-rules
returns-in-Leaf-clause-rules c =
    let nodes = c.args.plan.now.nodes.now in
    let k : ℕ = c.args.k in
    let there : slice_get nodes k ≡ Some (Leaf c.in-Leaf.field-0) = slice_get-get_or nodes k c.index-plan-k.result c.requires.inside ∙ ap Some c.in-Leaf.is in
    ([], sym (append-nil c.args.rules.now), inl (refl, λ f kids cut. absurd (not_cut nodes k c.in-Leaf.field-0 f kids there cut)))
