use Rattle.std.proofs.Common.{refl}
use Rattle.fws_pf_words.proofs.Circling.{same_set}
use Rattle.fws_pf_words.proofs.Reaching.{are_ranges, closure_is, shown_ranges}
use Rattle.fws_pf_words.proofs.circles.share.Goals as goal

pub of_ranges-requires : goal.of_ranges-requires
of_ranges-requires c =
    let both = shown_ranges c.args.tables.now c.as_slice.result.now c.args.places.now c.args.places.now c.in_ok-ranges.ranges.items c.as_slice-2.result.now
    c.as_slice.ensures refl c.in_ok-ranges.ensures.ranges c.as_slice-2.ensures.value c.in_ok-ranges.ensures.regular in
    are_ranges c.args.tables.now c.args.places.now c.as_slice-2.result.now both.0 both.1

pub returns : goal.returns
returns c =
    let tables = c.args.tables.now in
    let name = c.args.name.now in
    let places = c.args.places.now in
    let both = shown_ranges tables c.as_slice.result.now places places c.in_ok-ranges.ranges.items c.as_slice-2.result.now
    c.as_slice.ensures refl c.in_ok-ranges.ensures.ranges c.as_slice-2.ensures.value c.in_ok-ranges.ensures.regular in
    let is = closure_is c.same_members_same_list.ensures c.ranges_are_regular.ensures c.ranges_add_members.ensures c.many_ranges_add_members.ensures tables name
    places c.as_slice-2.result.now c.in_ok-set.set c.requires.closure both.1 both.0 c.in_ok-set.ensures.value in
    c.in_ok-put_each.ensures tables
    (λ p on. same_set c.same_members_same_list.ensures c.ranges_are_regular.ensures c.ranges_add_members.ensures tables name places p c.in_ok-set.set c.requires.closure both.1 is
    (c.requires.back.among p on) (c.requires.back.lead p on))
