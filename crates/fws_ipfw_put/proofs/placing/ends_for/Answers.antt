use Rattle.std.proofs.Common.{All, length, arith, ap, subst}
use Rattle.fws_place.specs.declared.redirect.Redirect.{Redirect as Shown}
use Rattle.fws_ipfw_put.specs.Ends.{FitsEnd, HasSources, HaveDestinations}
use Rattle.fws_ipfw_put.proofs.placing.ends_for.Goals as goal

pub returns-clause-shown : goal.returns-clause-shown
returns-clause-shown c =
    let e = c.in_ok-shown.ensures in
    record { shown = e.shown; sound = e.sound; few = e.few; somewhere = e.somewhere }

pub returns-clause-ends : goal.returns-clause-ends
returns-clause-ends c =
    let d = c.in_ok-destinations.ensures in
    let same = c.as_slice.ensures in
    let few = c.in_ok-shown.ensures.few in
    let long = ap length same in
    record {
      have_destinations = subst (HaveDestinations c.in_ok-destinations.destinations.keys) same d.have;
      has_sources = subst (λ ts. HasSources ts c.args.t.now.fresh.1 c.in_ok-sources.sources.keys) c.requires.regular.fresh_tops c.in_ok-sources.ensures;
      few_destinations = omega (arith, d.few, long, few);
      few_sources = omega (arith, c.len.ensures.len, c.if-len-gt-MOST_SOURCES.false);
      fit = subst (All (λ (r : Shown). FitsEnd r.local)) same d.fit;
      different = d.different;
    }
