use Rattle.std.proofs.Common.{sym, ◌∙◌}
use Rattle.fws_ios_read.proofs.Known.{put_new}
use Rattle.fws_ios_read.proofs.pools.Pools.put_if_new.Goals as goal

pub returns : goal.returns
returns c =
    put_new c.args.pool c.self.inside.addrs _ _ c.address_of.result c.self.view_is c.address_of.ensures (sym c.is_some.ensures ∙ c.if-is_some.false)
    c.in_ok-insert.ensures.entries
