use Rattle.fws_ifcl.specs.declared.diagram.Ifcl.{Ifcl}
use Rattle.fws_top.proofs.Diagrams.{drawn_means, drawn_ok, drawn_refused}
use Rattle.fws_top.proofs.iptables.IptablesSource.to_ifcl.Goals as goal

pub returns-clause-ok : goal.returns-clause-ok
returns-clause-ok c = drawn_ok c.to_ifcl.result (λ (d : Ifcl). d) c.args.c.now (c.spelled_diagrams.ensures c.args.site.now c.requires.from_text.0 c.args.c.now c.requires.from_text.1) c.to_ifcl.ensures.ok

pub returns-clause-refused : goal.returns-clause-refused
returns-clause-refused c =
    drawn_refused c.to_ifcl.result (λ (d : Ifcl). d) c.args.site.now c.args.c.now (c.spelled_diagrams.ensures c.args.site.now c.requires.from_text.0 c.args.c.now c.requires.from_text.1)
    c.to_ifcl.ensures.chains c.to_ifcl.ensures.refused

pub returns-clause-means : goal.returns-clause-means
returns-clause-means c =
    drawn_means c.to_ifcl.result (λ (d : Ifcl). d) c.args.site.now c.args.c.now (c.spelled_diagrams.ensures c.args.site.now c.requires.from_text.0 c.args.c.now c.requires.from_text.1)
    (c.unrefused_have_no_loop.ensures c.args.site.now c.args.c.now) c.to_ifcl.ensures.means
