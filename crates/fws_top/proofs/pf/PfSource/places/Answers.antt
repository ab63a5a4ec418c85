use Rattle.std.proofs.Common.{None, length}
use Rattle.fws_pf.specs.Uses.{used}
use Rattle.fws_pf.specs.Walk.{walk}
use Rattle.fws_pf_print.specs.Labels.{labels_of}
use Rattle.fws_top.proofs.Chainless.{always_draws, always_shows, never_refused, spots_labelled}
use Rattle.fws_top.proofs.pf.PfSource.places.Goals as goal

pub returns-clause-refused : goal.returns-clause-refused
returns-clause-refused c = never_refused c.places.result (λ x. x.0) c.places.ensures.unfolds

pub returns-clause-means : goal.returns-clause-means
returns-clause-means c = always_draws c.places.result (λ x. x.0) c.args.site.now (walk c.args.c.now c.args.site.now) None c.places.ensures.means

pub returns-clause-spots : goal.returns-clause-spots
returns-clause-spots c =
    spots_labelled c.places.result (λ x. x.0) (λ x. x.1.items) (length (labels_of c.args.c.now)) _ (c.labels_are_counted.ensures c.args.c.now) c.places.ensures.spots

pub returns-clause-uses : goal.returns-clause-uses
returns-clause-uses c =
    always_shows c.places.result (λ x. x.0) (λ x. x.1.items) c.args.site.now (used c.args.c.now c.args.site.now) None c.places.ensures.uses
