use Rattle.fws_place.proofs.Breaking.{breach_refutes}
use Rattle.fws_place.proofs.laws.breaches_refute_fits.Goals as goal

pub returns : goal.returns
returns c = breach_refutes
