use Rattle.std.proofs.Common.{◌≡◌, ◌≢◌, ◌<◌, List, length, sym, ◌∙◌, subst, arith}
use Rattle.std.proofs.lemmas.List.{get_or-set_other, get_or_read, take_all}
use Rattle.std.specs.Prelude.{All}
use Rattle.fws_tree.specs.declared.node.Kid.{Kid}
use Rattle.fws_ipt_put_chains.specs.declared.coming.Coming.{Coming}
use Rattle.fws_ipt_put_chains.specs.Comings.{both, narrowed, coming_at, IsCovered}
use Rattle.fws_ipt_put_chains.proofs.Flowing.{below_at, covered-then, covered-set, flows_step}
use Rattle.fws_ipt_put_chains.proofs.coming.flow.Goals as goal

pub loop-kid-preserved : goal.loop-kid-preserved
loop-kid-preserved c =
    let cs = c.loop-kid.comings.items in
    let kid = c.kid-item.result in
    let inv = c.loop-kid.invariant in
    let below = below_at c.args.kids.now c.args.at c.loop-kid.kid-index kid c.requires.below (omega arith) c.kid-item.is in
    let lt : kid.node < length cs = omega (arith, c.loop-kid.comings.ok.0) in
    let read : coming_at cs kid.node ≡ c.index.result.now = sym (get_or_read cs kid.node c.index.result.now lt c.index.ensures both) in
    let old : IsCovered (coming_at cs kid.node) c.join.result = subst (λ d. IsCovered d c.join.result) (sym read) c.join.ensures.first in
    let new : IsCovered (narrowed c.args.f kid.set c.index-here.result.now) c.join.result = subst (λ d. IsCovered d c.join.result) c.narrow-more.ensures c.join.ensures.second in
    record {
      size = inv.size;
      later = λ k le. let ne : k ≢ kid.node = omega (arith, below) in get_or-set_other cs kid.node k c.join.result both ne ∙ inv.later k le;
      grows = λ k. covered-then (coming_at c.args.comings.now.items k) (coming_at cs k) _ (inv.grows k) (covered-set cs kid.node c.join.result k lt old);
      flows = flows_step cs c.args.f c.loop-kid.kid-index c.index-here.result.now c.join.result c.args.kids.now kid lt (omega arith) c.kid-item.is old new inv.flows;
    }

pub returns-clause-flows : goal.returns-clause-flows
returns-clause-flows c =
    let old = c.args.comings.now.items in
    let kids = c.args.kids.now in
    let now = c.loop-kid.comings.items in
    let lt : c.args.at < length old = omega (arith, c.args.comings.now.ok.0) in
    let read : c.index-here.result.now ≡ coming_at old c.args.at = get_or_read old c.args.at c.index-here.result.now lt c.index-here.ensures both in
    let P : Coming → List Kid → Type 0 = λ here ks. All (λ kid. IsCovered (narrowed c.args.f kid.set here) (coming_at now kid.node)) ks in
    subst (λ here. P here kids) read (subst (λ ks. P c.index-here.result.now ks) (take_all c.loop-kid.kid-index kids (omega arith)) c.loop-kid.invariant.flows)
