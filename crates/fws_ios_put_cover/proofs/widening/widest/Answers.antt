use Rattle.fws_ios_put_cover.proofs.Wider.{widens_then}
use Rattle.fws_ios_put_cover.proofs.widening.widest.Goals as goal

pub returns : goal.returns
returns c =
    let e = c.args.established in
    let tops = c.args.tops.now in
    let within = c.args.within.now.1 in
    widens_then e tops within c.args.sides c.in_ok-sides.sides c.in_ok-sides-3.sides (c.in_ok-sides.ensures e)
    (widens_then e tops within c.in_ok-sides.sides c.in_ok-sides-2.sides c.in_ok-sides-3.sides c.in_ok-sides-2.ensures (c.in_ok-sides-3.ensures e))
