use Rattle.fws_pf_words.proofs.Unions.{ranges_there}
use Rattle.fws_pf_words.proofs.members.own_of.Goals as goal

pub of_ranges-requires : goal.of_ranges-requires
of_ranges-requires c =
    ranges_there c.args.items.now c.in_ok-ranges.ranges.items c.as_slice.result.now c.in_ok-ranges.ensures.ranged c.in_ok-ranges.ensures.ranges c.as_slice.ensures.value
