use Rattle.fws_ios_print.proofs.LinesPut.{text_put}
use Rattle.fws_ios_print.proofs.printing.config_text.Goals as goal

pub returns : goal.returns
returns c =
    text_put c.args.site.now c.args.c.now _ c.put_interfaces.new.out c.put_list_section.new.out c.put_nat_section.new.out _ _ c.in_ok-out.ensures c.in_ok-put_interfaces.ensures
    c.as_slice.ensures c.in_ok-put_list_section.ensures c.as_slice-2.ensures c.in_ok-put_nat_section.ensures
