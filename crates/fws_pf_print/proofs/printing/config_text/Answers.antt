use Rattle.fws_pf_print.proofs.LinesPut.{text_put}
use Rattle.fws_pf_print.proofs.printing.config_text.Goals as goal

pub returns : goal.returns
returns c =
    text_put c.args.site.now c.args.c.now _ c.put_translation_section.new.out c.put_translation_section-2.new.out c.put_rule_section.new.out _ _ _ c.in_ok-out.ensures c.as_slice.ensures
    c.in_ok-put_translation_section.ensures c.as_slice-2.ensures c.in_ok-put_translation_section-2.ensures c.as_slice-3.ensures c.in_ok-put_rule_section.ensures
