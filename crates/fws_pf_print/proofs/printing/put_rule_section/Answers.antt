use Rattle.fws_num.specs.Written.{spaced}
use Rattle.fws_pf_print.specs.PrintedText.{filter_comment, rule_words}
use Rattle.fws_pf_print.proofs.LinesPut.{section_put}
use Rattle.fws_pf_print.proofs.printing.put_rule_section.Goals as goal

pub returns-in_ok-put_rules : goal.returns-in_ok-put_rules
returns-in_ok-put_rules c =
    section_put filter_comment (λ r. spaced (rule_words c.args.site.now r)) c.args.rules.now c.args.out.now c.put.new.self c.put_rules.new.out c.in-len1-up.len_at_least c.in_ok-put.ensures.ok
    c.in_ok-put_rules.ensures
