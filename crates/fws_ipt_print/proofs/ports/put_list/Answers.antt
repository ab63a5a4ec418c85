use Rattle.std.proofs.Common.{codes}
use Rattle.fws_ipt_print.specs.PrintedText.{ranges_word}
use Rattle.fws_ipt_print.proofs.LinesPut.{value_put}
use Rattle.fws_ipt_print.proofs.ports.put_list.Goals as goal

pub returns : goal.returns
returns c =
    value_put c.args.out.now c.put_option.new.out c.put.new.self c.put_ranges.new.out (codes "multiport") c.args.many.now (ranges_word c.args.parts.now)
    c.in_ok-put_option.ensures c.in_ok-put.ensures.ok c.in_ok-put_ranges.ensures
