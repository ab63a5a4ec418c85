use Rattle.std.proofs.Common.{sym, ap, ◌∙◌}
use Rattle.fws_ipfw.specs.declared.config.Redirect.{Redirect}
use Rattle.fws_ipfw_ifcl.specs.Translating.{is_of_ports}
use Rattle.fws_ipfw_ifcl.proofs.PassingItems.{failing_left, passing_put}
use Rattle.fws_ipfw_ifcl.proofs.redirects.put_of_ports.Goals.{then-is_some+in_ok-push, else-is_some}
use Rattle.fws_ipfw_ifcl.proofs.redirects.put_of_ports.Goals as goal

pub loop-redirect-preserved : goal.loop-redirect-preserved
loop-redirect-preserved c =
    let redirects = c.args.redirects.now in
    let at = c.loop-redirect.redirect-index in
    let redirect : Redirect = c.redirect-item.result in
    let old = c.loop-redirect.tried.items in
    let new = c.if-is_some.tried.items in
    elim c.if-is_some.branch [
      | then-is_some+in_ok-push w ↦ passing_put is_of_ports redirects at redirect old new _ c.loop-redirect-test.true c.redirect-item.is (sym c.is_some.ensures ∙ w.if-is_some.true)
          (ap (λ v. v.items) w.tried-is ∙ w.in_ok-push.ensures.items) c.loop-redirect.invariant
      | else-is_some w ↦ failing_left is_of_ports redirects at redirect old new _ c.loop-redirect-test.true c.redirect-item.is (sym c.is_some.ensures ∙ w.if-is_some.false)
          (ap (λ v. v.items) w.tried-is) c.loop-redirect.invariant
    ]
