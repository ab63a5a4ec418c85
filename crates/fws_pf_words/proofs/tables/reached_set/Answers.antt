use Rattle.fws_pf_words.proofs.Reaching.{are_ranges, closure_is, shown_ranges}
use Rattle.fws_pf_words.proofs.tables.reached_set.Goals as goal

pub of_ranges-requires : goal.of_ranges-requires
of_ranges-requires c =
    let both = shown_ranges c.args.tables.now c.as_slice.result.now c.in_ok-places.places.keys c.as_slice-2.result.now c.in_ok-ranges.ranges.items c.as_slice-3.result.now
    c.as_slice.ensures c.as_slice-2.ensures.keys c.in_ok-ranges.ensures.ranges c.as_slice-3.ensures.value c.in_ok-ranges.ensures.regular in
    are_ranges c.args.tables.now c.in_ok-places.places.keys c.as_slice-3.result.now both.0 both.1

pub returns : goal.returns
returns c =
    let both = shown_ranges c.args.tables.now c.as_slice.result.now c.in_ok-places.places.keys c.as_slice-2.result.now c.in_ok-ranges.ranges.items c.as_slice-3.result.now
    c.as_slice.ensures c.as_slice-2.ensures.keys c.in_ok-ranges.ensures.ranges c.as_slice-3.ensures.value c.in_ok-ranges.ensures.regular in
    closure_is c.same_members_same_list.ensures c.ranges_are_regular.ensures c.ranges_add_members.ensures c.many_ranges_add_members.ensures c.args.tables.now c.args.name.now
    c.in_ok-places.places.keys c.as_slice-3.result.now _ c.in_ok-places.ensures both.1 both.0 c.in_ok-of_ranges.ensures.value
