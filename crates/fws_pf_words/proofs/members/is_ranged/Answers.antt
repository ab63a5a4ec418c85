use Rattle.fws_pf_words.proofs.Unions.{set_is_ranged}
use Rattle.fws_pf_words.proofs.members.is_ranged.Goals as goal

pub returns-in-Set : goal.returns-in-Set
returns-in-Set c = set_is_ranged c.args.part.now c.in-Set.set c.in-Set.is c.parts.ensures.regular
