use Rattle.fws_pfo.proofs.Texts.{spelled_is_fitting}
use Rattle.fws_pfo.proofs.laws.spelled_fits.Goals as goal

pub returns : goal.returns
returns c = spelled_is_fitting
