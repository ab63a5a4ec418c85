use Rattle.fws_pf_words.proofs.Leading.{found_behind}
use Rattle.fws_pf_words.proofs.ways.+find.Goals as goal

pub returns-else-fits : goal.returns-else-fits
returns-else-fits t c =
    found_behind c.find.result c.args.skipped c.args.start c.args.known.now c.in-Some.way.now c.in-Some.rest.now c.in-Some.ensures.cases.0 c.find.ensures
