use Rattle.std.proofs.Common.{All, arith, subst}
use Rattle.std.proofs.lemmas.List.{take_all}
use Rattle.fws_place.specs.declared.redirect.Redirect.{Redirect as Shown}
use Rattle.fws_ipfw_put.specs.Ends.{FitsEnd, HaveDestinations}
use Rattle.fws_ipfw_put.proofs.Gathered.{destinations_more, fit_more}
use Rattle.fws_ipfw_put.proofs.telling.destinations_of.Goals as goal

pub loop-redirect-preserved : goal.loop-redirect-preserved
loop-redirect-preserved c =
    let e = c.in_ok-put_end.ensures in
    let inv = c.loop-redirect.invariant in
    let few = inv.1 in (
      destinations_more c.loop-redirect.ends.keys c.put_end.new.ends.keys c.args.redirects.now c.loop-redirect.redirect-index c.redirect-item.result c.loop-redirect-test.true c.redirect-item.is
          inv.0 e.there e.extends,
      omega (arith, few, e.few),
      fit_more c.args.redirects.now c.loop-redirect.redirect-index c.redirect-item.result c.loop-redirect-test.true c.redirect-item.is inv.2 e.fits,
    )

pub returns-clause-have : goal.returns-clause-have
returns-clause-have c =
    subst (HaveDestinations c.loop-redirect.ends.keys) (take_all c.loop-redirect.redirect-index c.args.redirects.now c.loop-redirect-test.false) c.loop-redirect.invariant.0

pub returns-clause-fit : goal.returns-clause-fit
returns-clause-fit c =
    subst (All (λ (r : Shown). FitsEnd r.local)) (take_all c.loop-redirect.redirect-index c.args.redirects.now c.loop-redirect-test.false) c.loop-redirect.invariant.2

pub returns-clause-different : goal.returns-clause-different
returns-clause-different c = c.len-count.ensures.unique
