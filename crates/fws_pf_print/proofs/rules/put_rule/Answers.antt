use Rattle.std.proofs.Common.{◌++◌}
use Rattle.fws_pf_print.specs.PrintedText.{action_word, front_words, options_words, state_words, tag_words, way_words}
use Rattle.fws_pf_print.proofs.LinesPut.{line_put}
use Rattle.fws_pf_print.proofs.rules.put_rule.Goals as goal

pub returns : goal.returns
returns c =
    let r = c.args.r.now in
    line_put c.args.out.now c.put_action.new.out c.put_body.new.out _ (action_word r.pass)
    (way_words r.way ++ (front_words c.args.site.now r.cond ++ (options_words r.cond ++ (tag_words r.tag ++ state_words r.pass r.cond)))) c.in_ok-put_action.ensures c.in_ok-put_body.ensures
    c.in_ok-put.ensures.ok
