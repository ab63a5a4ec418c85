use Rattle.std.proofs.Common.{OnOk, sym, subst}
use Rattle.fws_ios_put_sources.specs.Picking.{HasSource}
use Rattle.fws_net.specs.declared.outcome.Outcome.{Outcome}
use Rattle.fws_ios_put_sources.proofs.addresses.put_leaf.Goals as goal

pub returns-in-Accept-clause-there : goal.returns-in-Accept-clause-there
returns-in-Accept-clause-there c =
    subst (λ (o : Outcome). OnOk c.put_source.result (HasSource c.put_source.new.addrs.keys o)) (sym c.in-Accept.is) c.put_source.ensures.there
