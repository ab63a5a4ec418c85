use Rattle.fws_ifcl_rules.proofs.Walked.{parts, walked}
use Rattle.fws_ifcl_rules.proofs.laws.walks_go_by_places.Goals as goal

pub returns : goal.returns
returns c enter site p k stage full = record {
  parts = λ {at} next xs ys s place. parts full at next xs ys s place;
  walked = λ {at} {rules} s forward t. walked enter site p k stage full at rules s forward t;
}
