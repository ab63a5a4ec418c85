use Rattle.std.proofs.Common.{◌≡◌, Some, sym, ◌∙◌, ap}
use Rattle.std.proofs.lemmas.Result.{IfOk-weaker}
use Rattle.fws_tree.proofs.tree.Tree.select.Goals as goal

pub returns-clause-value : goal.returns-clause-value
returns-clause-value g c = IfOk-weaker c.relabel.result _ _ (λ t is p w. let z = is p w in (
  g.L.PartialEq.eq z.0 c.args.wanted.now,
  z.2,
  (
    λ y. z.1 ∙ ap Some (g.met.L.Leaf.exact z.0 c.args.wanted.now y),
    λ e. let s : Some z.0 ≡ Some c.args.wanted.now = sym z.1 ∙ e in
        let same : z.0 ≡ c.args.wanted.now = cc in
        ap (λ x. g.L.PartialEq.eq x c.args.wanted.now) same ∙ g.met.L.Eq.laws.refl c.args.wanted.now,
  ),
)) c.relabel.ensures.value
