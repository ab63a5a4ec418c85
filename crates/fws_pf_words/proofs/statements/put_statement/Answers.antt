use Rattle.std.proofs.Common.{◌<◌, ◌∙◌, ap, length, arith}
use Rattle.std.proofs.lemmas.Bool.Decides.{nat_tests}
use Rattle.fws_pf.specs.Statements.{words_of}
use Rattle.fws_pf_words.proofs.Joining.{statement_put}
use Rattle.fws_pf_words.proofs.statements.put_statement.Goals as goal

pub returns : goal.returns
returns c =
    let some : 0 < length c.in_ok-words.words.items = grind (arith, nat_tests, c.in_ok-words.words.ok.0, c.if-is_empty.ensures, c.if-is_empty.false) in
    statement_put c.args.lines.now c.put.new.self c.args.number c.is_indented.result c.args.bytes.now c.from_vec.result c.is_indented.ensures
    (c.from_vec.ensures ∙ c.in_ok-words.ensures ∙ ap (words_of c.args.number) c.uncommented.ensures) (rw c.from_vec.ensures some) c.in_ok-put.ensures.ok
