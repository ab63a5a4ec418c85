use Rattle.fws_ifcl_rules.proofs.Beside.{are_beside, right, untold_many, first_many, joined, no_spots}
use Rattle.fws_ifcl_rules.proofs.Told.{parts, rules_tell, by_stages}
use Rattle.fws_ifcl_rules.proofs.laws.uses_are_told_by_places.Goals as goal

pub returns : goal.returns
returns c = record {
  beside = are_beside;
  right = right;
  untold_many = untold_many;
  first_many = first_many;
  joined = joined;
  no_spots = no_spots;
  places = λ used enter spots c site p k stage full beside are. record {
    parts = λ {at} next xs ys s place. parts beside at next xs ys s place;
    told = λ {at} {rules} {numbers} s b forward t. rules_tell used enter spots c site p k stage full beside are at rules numbers s b forward t;
  };
  stages = λ spots f site p k. by_stages spots f.chains site p k f.arrive f.deliver f.forward f.send;
}
