use Rattle.std.proofs.Common.{ap, ◌∙◌, ◌++◌}
use Rattle.std.specs.List.{flat_map}
use Rattle.fws_print.specs.Words.{behind_blanks}
use Rattle.fws_ipt_print.specs.PrintedText.{act_words, literal_words}
use Rattle.fws_ipt_print.proofs.LinesPut.{rule_put}
use Rattle.fws_ipt_print.proofs.lines.put_rule.Goals as goal

pub returns : goal.returns
returns c =
    let site = c.args.site.now in
    let rule = c.args.rule.now in
    rule_put c.args.out.now c.put.new.self c.put_word.new.out c.put_literals.new.out c.put_act.new.out _ c.args.name.now
    (flat_map (literal_words site rule.cond) rule.cond) (act_words c.args.chains.now rule.go)
    c.in_ok-put.ensures.ok c.in_ok-put_word.ensures
    (c.in_ok-put_literals.ensures ∙ ap (λ lits. c.put_word.new.out ++ behind_blanks (flat_map (literal_words site lits) lits)) c.lits.ensures)
    c.in_ok-put_act.ensures c.in_ok-put-2.ensures.ok
