use Rattle.fws_place.proofs.LocalWritten.{first_there, none_in_block}
use Rattle.fws_place.proofs.delivering.first_in_block.Goals as goal

pub returns-in-Some : goal.returns-in-Some
returns-in-Some c =
    first_there c.args.local.now c.args.addr c.args.size c.args.block c.args.from c.in-Some.value c.requires.from c.requires.aligned c.in-Some.ensures

pub returns-in-None : goal.returns-in-None
returns-in-None c = none_in_block c.args.local.now c.args.addr c.args.size c.args.block c.args.from c.requires.aligned c.in-None.ensures
