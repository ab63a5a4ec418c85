use Rattle.std.proofs.Common.{arith, ◌≡◌, ◌-◌, suc, List, reverse, get_or, ap, sym, ◌∙◌}
use Rattle.std.proofs.lemmas.List.{length-reverse}
use Rattle.fws_ifcl.specs.declared.diagram.Rule.{Rule}
use Rattle.fws_ifcl.specs.Walk.{rules_at}
use Rattle.fws_unfold.specs.declared.draft.Draft.{Draft}
use Rattle.fws_unfold.specs.Drafts.{call_of}
use Rattle.fws_unfold.proofs.Frames.{call_put}
use Rattle.fws_unfold.proofs.stacking.leave.Goals as goal

pub returns : goal.returns
returns c = λ n back old w.
    let chains = c.args.chains.now in
    let f = c.args.frame in
    let at = f.left - 1 in
    let rule = c.index-rules-i.result in
    let body : List Draft = reverse c.args.out.now.items in
    let new : List Draft = reverse c.put_guard.new.out.items in
    let step : f.left ≡ suc at = omega (arith, c.requires.some) in
    let is : rule ≡ get_or (rules_at chains f.chain) at rule = c.index-rules-i.is ∙ ap (λ (rs : List Rule). get_or rs at rule) c.rules_at-rules.ensures in
    let same = length-reverse c.args.out.now.items in
    record {
      chain = w.begun.chain;
      ends = w.begun.ends;
      put = call_put chains f at rule rule c.in_ok-at.at old w.code body new _ w.enters w.far _ step is c.in_ok-at.ensures w.next c.in_ok-put.ensures.ok (omega (arith, same)) (w.called rule ∙ ap (λ (r : Rule). call_of r.act f.next f.back) (sym is))
          c.in_ok-put_guard.ensures w.begun.put w.inner;
    }
