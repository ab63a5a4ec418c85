use Rattle.std.proofs.Common.{◌||◌}
use Rattle.fws_ios_put.proofs.MadeTrees.{made_of_two}
use Rattle.fws_ios_put.proofs.truths.either.Goals as goal

pub returns : goal.returns
returns c =
    let made = made_of_two c.args._site.now (λ x y. x || y) c.args.tree.now c.args.other.now c.in_ok-made.made c.requires.tree c.requires.other c.in_ok-made.ensures.tops c.in_ok-made.ensures.value in
    record { askable = made.0; value = made.1 }
