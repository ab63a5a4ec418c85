use Rattle.std.proofs.Common.{◌++◌}
use Rattle.fws_pf_print.specs.PrintedText.{front_words, options_words, tag_words, target_words}
use Rattle.fws_pf_print.proofs.LinesPut.{translation_put}
use Rattle.fws_pf_print.proofs.translations.put_translation.Goals as goal

pub returns : goal.returns
returns c =
    let nat = c.args.nat.now in
    translation_put c.args.redirects nat.to c.args.out.now c.put_no.new.out c.put_verb.new.out c.put_body.new.out _
    (front_words c.args.site.now nat.cond ++ (tag_words nat.tag ++ (options_words nat.cond ++ target_words c.args.redirects nat.to))) c.in_ok-put_no.ensures c.in_ok-put_verb.ensures
    c.in_ok-put_body.ensures c.in_ok-put.ensures.ok
