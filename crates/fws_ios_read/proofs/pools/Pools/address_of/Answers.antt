use Rattle.std.proofs.Common.{◌∙◌}
use Rattle.fws_ios_read.proofs.Known.{address_now}
use Rattle.fws_ios_read.proofs.pools.Pools.address_of.Goals as goal

pub returns : goal.returns
returns c = address_now c.args.name.now _ _ _ c.self.view_is (c.copied.ensures ∙ c.get.ensures.value)
