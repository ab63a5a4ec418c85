use Rattle.std.proofs.Common.{[], ◌∷◌, codes}
use Rattle.fws_ios_print.proofs.LinesPut.{word_put}
use Rattle.fws_ios_print.proofs.lists.put_extended.Goals as goal

pub returns : goal.returns
returns c = word_put c.args.out.now c.put.new.self _ (codes "access-list" ∷ codes "extended" ∷ []) c.args.name.now c.in_ok-put.ensures.ok c.in_ok-put_word.ensures
