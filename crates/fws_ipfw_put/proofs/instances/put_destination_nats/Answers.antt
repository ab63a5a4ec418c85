use Rattle.std.proofs.Common.{◌++◌, ◌+◌, List, ap, ◌∙◌}
use Rattle.fws_ipfw.specs.declared.config.IpfwNat.{IpfwNat}
use Rattle.fws_ipfw.specs.declared.config.Redirect.{Redirect}
use Rattle.fws_ipfw_put.specs.Instances.{destination_nats}
use Rattle.fws_ipfw_put.proofs.Filled.{destination_more}
use Rattle.fws_ipfw_put.proofs.instances.put_destination_nats.Goals as goal

pub loop-place-preserved : goal.loop-place-preserved
loop-place-preserved c =
    let e = c.index-ends-place.result in
    let made : List Redirect → IpfwNat = λ (rs : List Redirect). record { number = c.loop-place.place + 1; alias = e.addr; redirects = rs } in
    destination_more c.args.shown.now c.args.ends.now c.loop-place.place e c.loop-place.nats c.put.new.self
    (c.args.nats.now ++ destination_nats c.args.shown.now 0 c.args.ends.now) c.instance.result c.loop-place-test.true c.index-ends-place.is c.loop-place.invariant
    (c.instance.ensures.is ∙ ap made c.in_ok-redirects.ensures) c.instance.ensures.fits c.in_ok-put.ensures.ok
