use Rattle.fws_pf_words.proofs.Uses.{front_is, split_joined}
use Rattle.fws_pf_words.proofs.macros.front_words.Goals as goal

pub returns-in-Some-clause-front : goal.returns-in-Some-clause-front
returns-in-Some-clause-front c = front_is c.args.words.now c.in-Some.front.now _ c.in-Some.ensures.cases.0

pub returns-in-Some-clause-joined : goal.returns-in-Some-clause-joined
returns-in-Some-clause-joined c = split_joined c.args.words.now c.in-Some.front.now _ c.in-Some.ensures.cases.0
