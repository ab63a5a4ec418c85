use Rattle.std.proofs.Common.{[], ◌∷◌, codes}
use Rattle.fws_print.specs.Words.{protocol_name}
use Rattle.fws_ipfw_print.specs.PrintedText.{end_word}
use Rattle.fws_ipfw_print.proofs.LinesPut.{one_put, word_put, words_put}
use Rattle.fws_ipfw_print.proofs.instances.put_port_redirect.Goals as goal

pub returns : goal.returns
returns c =
    let out = c.args.out.now in
    let first = codes "redirect_port" in
    let name = protocol_name c.args.proto in
    words_put out c.put_protocol.new.out c.put_ends.new.out (first ∷ name ∷ []) (end_word c.args.local ∷ end_word c.args.public ∷ [])
    (word_put out c.put_word.new.out c.put_protocol.new.out (first ∷ []) name (one_put out c.put_word.new.out first c.in_ok-put_word.ensures) c.in_ok-put_protocol.ensures)
    c.in_ok-put_ends.ensures
