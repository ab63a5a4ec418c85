use Rattle.fws_ios_print.specs.PrintedText.{nats_comment, nats_lines}
use Rattle.fws_ios_print.proofs.LinesPut.{section_put}
use Rattle.fws_ios_print.proofs.printing.put_nat_section.Goals as goal

pub returns-in_ok-put_nats : goal.returns-in_ok-put_nats
returns-in_ok-put_nats c =
    section_put nats_comment c.args.nats.now (nats_lines 1 c.args.nats.now) c.args.out.now c.put.new.self c.put_nats.new.out c.in-len1-up.len_at_least c.in_ok-put.ensures.ok c.in_ok-put_nats.ensures
