use Rattle.std.proofs.Common.{[], ◌∷◌, codes, decimal}
use Rattle.fws_ipfw_print.specs.PrintedText.{body_words}
use Rattle.fws_ipfw_print.proofs.LinesPut.{line_put, one_put, words_put}
use Rattle.fws_ipfw_print.proofs.rules.put_rule.Goals as goal

pub returns : goal.returns
returns c =
    let r = c.args.r.now in
    let first = c.put.new.self in
    let number = decimal r.number in
    let body = body_words c.args.site.now r in
    line_put c.args.out.now first c.put_body.new.out _ (codes "add") (number ∷ body) c.in_ok-put.ensures.ok
    (words_put first c.put_number.new.out c.put_body.new.out (number ∷ []) body (one_put first c.put_number.new.out number c.in_ok-put_number.ensures) c.in_ok-put_body.ensures)
    c.in_ok-put-2.ensures.ok
