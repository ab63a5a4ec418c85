use Rattle.fws_ios_put_sources.specs.declared.parted.Parted.{Parted}
use Rattle.fws_ios_put_sources.specs.Parting.{AreWider, IsParted, IsPartedAt}
use Rattle.fws_ios_put_sources.proofs.Parts.{both_ok}
use Rattle.fws_ios_put_sources.proofs.Picks.{freed_parts}
use Rattle.fws_ios_put_sources.proofs.parting.parted_at.Goals as goal

pub returns : goal.returns
returns c =
    let old : Parted = c.in_ok-sets.sets in
    let tree = c.args.crossing.now in
    let keys = c.args.addrs.now.keys in
    let P : Parted → Type 0 = λ s. IsParted s in
    let Q : Parted → Type 0 = λ s. AreWider old s in
    let R : Parted → Type 0 = λ s. IsPartedAt tree.0 tree.1 keys c.args.place s in
    both_ok c.freed.result P Q R (λ s p q. freed_parts tree.0 tree.1 keys c.args.place old s c.in_ok-sets.ensures p q) c.freed.ensures.parted c.freed.ensures.wider
