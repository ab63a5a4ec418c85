use Rattle.std.proofs.Common.{not}
use Rattle.fws_ios_put.proofs.MadeTrees.{made_of_one}
use Rattle.fws_ios_put.proofs.truths.negated.Goals as goal

pub returns : goal.returns
returns c =
    let made = made_of_one c.args._site.now not c.args.tree.now c.in_ok-made.made c.requires c.in_ok-made.ensures.tops c.in_ok-made.ensures.value in
    record { askable = made.0; value = made.1 }
