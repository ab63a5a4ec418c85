use Rattle.std.proofs.Common.{◌≡◌, ℕ, ◌++◌, Some, get_or, slice_get, refl, ◌∙◌, ap, subst, append_assoc}
use Rattle.std.proofs.lemmas.Option.{slice_get-get_or}
use Rattle.fws_pf.specs.declared.config.Way.{Way}
use Rattle.fws_pf_put_filter.specs.Rules.{IsLastRule}
use Rattle.fws_pf_put_filter.specs.States.{state_at}
use Rattle.fws_pf_put_filter.proofs.nodes.put_tested.Goals as goal

pub returns-clause-rules : goal.returns-clause-rules
returns-clause-rules c =
    let plan = c.args.plan.now in
    let kids = c.args.kids.now in
    let at : ℕ = c.in_ok-at.at in
    let kid = get_or kids at c.index-kids-at.result in
    let default : ℕ = state_at plan.states.now kid.node in
    let a = c.in_ok-put_kids.ensures in
    let b = c.in_ok-put_last.ensures in
    let there : slice_get kids at ≡ Some kid = slice_get-get_or kids at c.index-kids-at.result c.in_ok-at.ensures.within in (
      a.0 ++ b.0,
      b.1 ∙ ap (λ l. l ++ b.0) a.1 ∙ append_assoc c.args.rules.now a.0 b.0,
      record {
        default = default;
        is_kid = (at, kid, there, refl);
        tests = a.0;
        last = b.0;
        all = refl;
        sorted = a.2;
        ends = subst (λ (w : Way). IsLastRule plan.leaves.now plan.nodes.now w c.args.from default b.0) c.way_for.ensures b.2;
      },
    )
