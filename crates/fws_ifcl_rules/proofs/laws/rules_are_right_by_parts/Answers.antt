use Rattle.fws_ifcl_rules.proofs.Joined.{skip_right, first_right, joined_right, guarded_right}
use Rattle.fws_ifcl_rules.proofs.laws.rules_are_right_by_parts.Goals as goal

pub returns : goal.returns
returns c chains total = record {
  skip = skip_right chains total;
  first = first_right chains total;
  joined = joined_right chains total;
  guarded = guarded_right chains total;
}
