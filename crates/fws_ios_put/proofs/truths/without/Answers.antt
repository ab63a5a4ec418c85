use Rattle.std.proofs.Common.{◌&&◌, not}
use Rattle.fws_ios_put.proofs.MadeTrees.{made_of_two}
use Rattle.fws_ios_put.proofs.truths.without.Goals as goal

pub returns : goal.returns
returns c =
    let made = made_of_two c.args._site.now (λ x y. x && not y) c.args.tree.now c.args.excused.now c.in_ok-made.made c.requires.tree c.requires.excused c.in_ok-made.ensures.tops c.in_ok-made.ensures.value in
    record { askable = made.0; value = made.1 }
