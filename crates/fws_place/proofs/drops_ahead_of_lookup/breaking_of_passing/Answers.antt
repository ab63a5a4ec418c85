use Rattle.std.proofs.Common.{sym, subst}
use Rattle.fws_box.specs.Sides.{IsWithin}
use Rattle.fws_place.specs.AheadOfLookup.{IsDroppedOfPacket}
use Rattle.fws_place.specs.Seen.{IsAcceptedAlike}
use Rattle.fws_place.proofs.Dropping.{both_told}
use Rattle.fws_place.proofs.drops_ahead_of_lookup.breaking_of_passing.Goals as goal

pub passing_of-requires-clause-seen : goal.passing_of-requires-clause-seen
passing_of-requires-clause-seen c =
    let site = c.args.site.now in
    let tables = c.args.tables.now in
    let dropped = c.args.dropped.now in
    let behind = c.args.behind.now in
    both_told site (IsDroppedOfPacket site tables) (IsAcceptedAlike site tables) dropped.1 behind.1 c.in_ok-seen.seen.1 c.requires.dropped c.requires.behind
    (λ q w. c.in_ok-seen.ensures.value q (subst (λ ts. IsWithin ts q) (sym c.requires.tops) w))
