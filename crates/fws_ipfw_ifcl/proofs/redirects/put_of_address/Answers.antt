use Rattle.std.proofs.Common.{ap, not, ◌∙◌}
use Rattle.fws_ipfw.specs.declared.config.Redirect.{Redirect}
use Rattle.fws_ipfw_ifcl.specs.Translating.{is_of_address}
use Rattle.fws_ipfw_ifcl.proofs.PassingItems.{failing_left, passing_put}
use Rattle.fws_ipfw_ifcl.proofs.redirects.put_of_address.Goals.{then-is_none+in_ok-push, else-is_none}
use Rattle.fws_ipfw_ifcl.proofs.redirects.put_of_address.Goals as goal

pub loop-redirect-preserved : goal.loop-redirect-preserved
loop-redirect-preserved c =
    let redirects = c.args.redirects.now in
    let at = c.loop-redirect.redirect-index in
    let redirect : Redirect = c.redirect-item.result in
    let old = c.loop-redirect.tried.items in
    let new = c.if-is_none.tried.items in
    elim c.if-is_none.branch [
      | then-is_none+in_ok-push w ↦ passing_put is_of_address redirects at redirect old new _ c.loop-redirect-test.true c.redirect-item.is (ap not c.is_none.ensures ∙ ap (λ b. not (not b)) w.if-is_none.true)
          (ap (λ v. v.items) w.tried-is ∙ w.in_ok-push.ensures.items) c.loop-redirect.invariant
      | else-is_none w ↦ failing_left is_of_address redirects at redirect old new _ c.loop-redirect-test.true c.redirect-item.is (ap not c.is_none.ensures ∙ ap (λ b. not (not b)) w.if-is_none.false)
          (ap (λ v. v.items) w.tried-is) c.loop-redirect.invariant
    ]
