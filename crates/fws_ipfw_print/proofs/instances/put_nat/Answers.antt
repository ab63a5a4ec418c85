use Rattle.std.proofs.Common.{[], ◌∷◌, ◌++◌, codes, decimal, ap, ◌∙◌}
use Rattle.std.specs.List.{flat_map}
use Rattle.fws_num.specs.Numbers.{dotted}
use Rattle.fws_print.specs.Words.{behind_blanks}
use Rattle.fws_ipfw_print.specs.PrintedText.{redirect_words}
use Rattle.fws_ipfw_print.proofs.LinesPut.{line_put, one_put, word_put, words_put}
use Rattle.fws_ipfw_print.proofs.instances.put_nat.Goals as goal

pub returns : goal.returns
returns c =
    let nat = c.args.nat.now in
    let first = c.put.new.self in
    let number = decimal nat.number in
    let words = codes "config" ∷ codes "ip" ∷ [] in
    let alias = dotted nat.alias in
    let redirects = flat_map redirect_words nat.redirects in
    line_put c.args.out.now first c.put_redirects.new.out _ (codes "nat") (number ∷ words ++ alias ∷ redirects) c.in_ok-put.ensures.ok
    (words_put first c.put_address.new.out c.put_redirects.new.out (number ∷ words ++ alias ∷ []) redirects
    (word_put first c.put-2.new.self c.put_address.new.out (number ∷ words) alias
    (words_put first c.put_number.new.out c.put-2.new.self (number ∷ []) words (one_put first c.put_number.new.out number c.in_ok-put_number.ensures) c.in_ok-put-2.ensures.ok)
    c.in_ok-put_address.ensures)
    (c.in_ok-put_redirects.ensures ∙ ap (λ list. c.put_address.new.out ++ behind_blanks (flat_map redirect_words list)) c.as_slice.ensures))
    c.in_ok-put-3.ensures.ok
