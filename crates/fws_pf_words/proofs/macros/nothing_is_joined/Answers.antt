use Rattle.fws_pf_words.proofs.Uses.{nothing_joined}
use Rattle.fws_pf_words.proofs.macros.nothing_is_joined.Goals as goal

pub returns : goal.returns
returns c = nothing_joined
