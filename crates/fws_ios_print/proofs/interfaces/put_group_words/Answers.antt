use Rattle.std.proofs.Common.{[], ◌∷◌, ◌++◌, codes, ap, ◌∙◌}
use Rattle.fws_ios_print.specs.PrintedText.{direction_word}
use Rattle.fws_ios_print.proofs.LinesPut.{word_put}
use Rattle.fws_ios_print.proofs.interfaces.put_group_words.Goals as goal

pub returns : goal.returns
returns c =
    let g = c.args.group.now in
    word_put c.args.out.now c.put_word.new.out _ (codes "ip" ∷ codes "access-group" ∷ g.list ∷ []) (direction_word g.outward)
    (word_put c.args.out.now c.put.new.self c.put_word.new.out (codes "ip" ∷ codes "access-group" ∷ []) g.list c.in_ok-put.ensures.ok
    (c.in_ok-put_word.ensures ∙ ap (λ word. c.put.new.self ++ 32 ∷ word) c.as_slice.ensures))
    c.in_ok-put_direction.ensures
