use Rattle.fws_pf_words.proofs.Leading.{found_named}
use Rattle.fws_pf_words.proofs.ways.Ways.find.Goals as goal

pub returns-in-Some : goal.returns-in-Some
returns-in-Some c =
    found_named c.find.result c.args.skipped c.args.start c.in-Some.known.now c.as_slice.result.now c.args.self.now.ways.entries c.args.name.now c.in-Some.ensures.value
    c.as_slice.ensures c.find.ensures
