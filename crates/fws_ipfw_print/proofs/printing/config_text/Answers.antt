use Rattle.fws_ipfw_print.proofs.LinesPut.{text_put}
use Rattle.fws_ipfw_print.proofs.printing.config_text.Goals as goal

pub returns : goal.returns
returns c =
    text_put c.args.site.now c.args.c.now _ c.put_nats.new.out c.put_rules.new.out _ _ c.in_ok-out.ensures c.as_slice.ensures c.in_ok-put_nats.ensures c.as_slice-2.ensures c.in_ok-put_rules.ensures
