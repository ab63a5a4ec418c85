use Rattle.std.proofs.Common.{[], ◌∷◌, codes}
use Rattle.fws_num.specs.Numbers.{dotted}
use Rattle.fws_ipfw_print.proofs.LinesPut.{one_put, word_put}
use Rattle.fws_ipfw_print.proofs.instances.put_address_redirect.Goals as goal

pub returns : goal.returns
returns c =
    let out = c.args.out.now in
    let first = codes "redirect_addr" in
    let local = dotted c.args.local in
    word_put out c.put_address.new.out c.put_address-2.new.out (first ∷ local ∷ []) (dotted c.args.public)
    (word_put out c.put_word.new.out c.put_address.new.out (first ∷ []) local (one_put out c.put_word.new.out first c.in_ok-put_word.ensures) c.in_ok-put_address.ensures)
    c.in_ok-put_address-2.ensures
