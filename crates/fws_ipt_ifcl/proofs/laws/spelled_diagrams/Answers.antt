use Rattle.fws_ipt_ifcl.proofs.Drawable.{texts_are_drawable}
use Rattle.fws_ipt_ifcl.proofs.laws.spelled_diagrams.Goals as goal

pub returns : goal.returns
returns c = texts_are_drawable c.spelled_fits.ensures c.spelled_conditions.ensures c.spelled_networks.ensures c.spelled_chains.ensures
