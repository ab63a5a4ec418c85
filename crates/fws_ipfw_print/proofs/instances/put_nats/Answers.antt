use Rattle.fws_ipfw_print.proofs.LinesPut.{nats_put}
use Rattle.fws_ipfw_print.proofs.instances.put_nats.Goals as goal

pub returns-in_ok-put_all : goal.returns-in_ok-put_all
returns-in_ok-put_all c =
    nats_put c.args.out.now c.put.new.self c.put_all.new.out c.args.nats.now c.in-len1-up.len_at_least c.in_ok-put.ensures.ok c.in_ok-put_all.ensures
