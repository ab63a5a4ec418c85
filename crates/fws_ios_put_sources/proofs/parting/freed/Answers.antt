use Rattle.fws_ios_put_sources.specs.declared.parted.Parted.{Parted}
use Rattle.fws_ios_put_sources.proofs.Parts.{wider_still}
use Rattle.fws_ios_put_sources.proofs.parting.freed.Goals as goal

pub returns-clause-wider : goal.returns-clause-wider
returns-clause-wider c =
    let a : Parted = c.args.sets in
    let b = c.in_ok-sets.sets in
    let d = c.in_ok-sets-2.sets in
    let e = c.in_ok-sets-3.sets in
    let f = c.in_ok-sets-4.sets in
    let g = c.in_ok-sets-5.sets in
    let h = c.in_ok-sets-6.sets in
    wider_still a b h c.in_ok-sets.ensures.wider (wider_still b d h c.in_ok-sets-2.ensures.wider (wider_still d e h c.in_ok-sets-3.ensures.wider
    (wider_still e f h c.in_ok-sets-4.ensures.wider (wider_still f g h c.in_ok-sets-5.ensures.wider c.in_ok-sets-6.ensures.wider))))
