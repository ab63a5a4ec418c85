use Rattle.std.proofs.Common.{◌∷◌, ◌++◌, codes, ap, ◌∙◌}
use Rattle.fws_ipt_print.specs.PrintedText.{class_word}
use Rattle.fws_ipt_print.proofs.LinesPut.{word_put}
use Rattle.fws_ipt_print.proofs.tests.put_class.Goals as goal

pub returns : goal.returns
returns c =
    word_put c.args.out.now c.put_option.new.out c.put_word.new.out (codes "conntrack") (codes "--ctstate") (class_word c.args.is_new)
    c.in_ok-put_option.ensures (c.in_ok-put_word.ensures ∙ ap (λ word. c.put_option.new.out ++ 32 ∷ word) c.class_word.ensures)
