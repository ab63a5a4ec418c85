use Rattle.std.proofs.Common.{[], ◌∷◌, codes}
use Rattle.fws_ios_print.specs.PrintedText.{direction_word}
use Rattle.fws_ios_print.proofs.LinesPut.{inner_put}
use Rattle.fws_ios_print.proofs.interfaces.put_group.Goals as goal

pub returns : goal.returns
returns c =
    let g = c.args.group.now in
    inner_put c.args.out.now c.put_group_words.new.out _ (codes "ip") (codes "access-group" ∷ g.list ∷ direction_word g.outward ∷ []) c.in_ok-put_group_words.ensures c.in_ok-put.ensures.ok
