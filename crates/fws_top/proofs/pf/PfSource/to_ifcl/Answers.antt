use Rattle.std.proofs.Common.{None}
use Rattle.fws_ifcl.specs.declared.diagram.Ifcl.{Ifcl}
use Rattle.fws_pf.specs.Walk.{walk}
use Rattle.fws_top.proofs.Chainless.{always_draws, never_refused}
use Rattle.fws_top.proofs.pf.PfSource.to_ifcl.Goals as goal

pub returns-clause-refused : goal.returns-clause-refused
returns-clause-refused c = never_refused c.to_ifcl.result (λ (d : Ifcl). d) c.to_ifcl.ensures.unfolds

pub returns-clause-means : goal.returns-clause-means
returns-clause-means c = always_draws c.to_ifcl.result (λ (d : Ifcl). d) c.args.site.now (walk c.args.c.now c.args.site.now) None c.to_ifcl.ensures.means
