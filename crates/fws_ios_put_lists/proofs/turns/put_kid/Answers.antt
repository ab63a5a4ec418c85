use Rattle.fws_ios_put_lists.specs.Turns.{turns_to}
use Rattle.fws_ios_put_lists.proofs.Turning.{kid_tests}
use Rattle.fws_ios_put_lists.proofs.turns.put_kid.Goals as goal

pub returns : goal.returns
returns c =
    let kid = c.args.kid.now in
    let paths = c.in_ok-paths.paths in
    (turns_to kid.node c.args.falls paths, c.in_ok-put_paths.ensures, kid_tests c.args.side kid c.args.path c.args.last c.args.falls paths c.requires.good c.in_ok-paths.ensures)
