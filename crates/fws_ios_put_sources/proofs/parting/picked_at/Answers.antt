use Rattle.fws_ios_put_sources.specs.declared.parted.Parted.{Parted}
use Rattle.fws_ios_put_sources.proofs.Picks.{picked_parts}
use Rattle.fws_ios_put_sources.proofs.parting.picked_at.Goals as goal

pub returns : goal.returns
returns c =
    let s : Parted = record { permitted = c.in_ok-permitted.permitted; denied = c.in_ok-denied.denied } in
    picked_parts c.args.crossing.now.0 c.args.crossing.now.1 c.args.addrs.now.keys c.args.place s c.in_ok-permitted.ensures.tops c.in_ok-denied.ensures.tops c.requires
    c.in_ok-permitted.ensures.picked c.in_ok-denied.ensures.picked
