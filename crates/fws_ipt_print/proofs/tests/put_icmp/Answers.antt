use Rattle.std.proofs.Common.{◌++◌, codes, decimal, ap, ◌∙◌}
use Rattle.fws_ipt_print.proofs.LinesPut.{value_put}
use Rattle.fws_ipt_print.proofs.tests.put_icmp.Goals as goal

pub returns : goal.returns
returns c =
    value_put c.args.out.now c.put_option.new.out c.put.new.self c.put_dec.new.out (codes "icmp") (codes "--icmp-type") (decimal c.args.kind)
    c.in_ok-put_option.ensures c.in_ok-put.ensures.ok (c.in_ok-put_dec.ensures.ok ∙ ap (λ n. c.put.new.self ++ decimal n) c.from.ensures)
