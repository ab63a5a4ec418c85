use Rattle.std.proofs.Common.{length}
use Rattle.fws_ipt_print.specs.Labels.{labels_of}
use Rattle.fws_top.proofs.Chainless.{spots_labelled}
use Rattle.fws_top.proofs.Diagrams.{drawn_means, drawn_ok, drawn_refused, drawn_shows}
use Rattle.fws_top.proofs.iptables.IptablesSource.places.Goals as goal

pub returns-clause-ok : goal.returns-clause-ok
returns-clause-ok c = drawn_ok c.places.result (λ x. x.0) c.args.c.now (c.spelled_diagrams.ensures c.args.site.now c.requires.from_text.0 c.args.c.now c.requires.from_text.1) c.places.ensures.ok

pub returns-clause-refused : goal.returns-clause-refused
returns-clause-refused c =
    drawn_refused c.places.result (λ x. x.0) c.args.site.now c.args.c.now (c.spelled_diagrams.ensures c.args.site.now c.requires.from_text.0 c.args.c.now c.requires.from_text.1)
    c.places.ensures.chains c.places.ensures.refused

pub returns-clause-means : goal.returns-clause-means
returns-clause-means c =
    drawn_means c.places.result (λ x. x.0) c.args.site.now c.args.c.now (c.spelled_diagrams.ensures c.args.site.now c.requires.from_text.0 c.args.c.now c.requires.from_text.1)
    (c.unrefused_have_no_loop.ensures c.args.site.now c.args.c.now) c.places.ensures.means

pub returns-clause-spots : goal.returns-clause-spots
returns-clause-spots c =
    spots_labelled c.places.result (λ x. x.0) (λ x. x.1.items) (length (labels_of c.args.c.now)) _ (c.labels_are_counted.ensures c.args.c.now) c.places.ensures.spots

pub returns-clause-uses : goal.returns-clause-uses
returns-clause-uses c =
    drawn_shows c.places.result (λ x. x.0) (λ x. x.1.items) c.args.site.now c.args.c.now (c.spelled_diagrams.ensures c.args.site.now c.requires.from_text.0 c.args.c.now c.requires.from_text.1)
    (c.unrefused_have_no_loop.ensures c.args.site.now c.args.c.now) c.places.ensures.uses
