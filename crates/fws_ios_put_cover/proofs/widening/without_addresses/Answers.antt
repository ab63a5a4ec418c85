use Rattle.fws_ios_put_cover.proofs.Wider.{addresses_widen}
use Rattle.fws_ios_put_cover.proofs.widening.without_addresses.Goals as goal

pub returns : goal.returns
returns c = λ established.
    addresses_widen established c.args.tops.now c.args.within.now.1 c.args.sides c.in_ok-sides.sides c.in_ok-sides-2.sides c.in_ok-sides.ensures c.in_ok-sides-2.ensures
