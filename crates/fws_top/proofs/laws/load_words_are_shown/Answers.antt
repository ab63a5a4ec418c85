use Rattle.fws_top.proofs.LoadsShown.{words_shown}
use Rattle.fws_top.proofs.laws.load_words_are_shown.Goals as goal

pub returns : goal.returns
returns c = words_shown c.loads_are_shown.ensures
