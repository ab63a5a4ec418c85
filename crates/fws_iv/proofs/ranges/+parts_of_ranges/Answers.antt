use Rattle.std.proofs.Common.{◌/◌, length}
use Rattle.fws_iv.proofs.Parts.{of_halves}
use Rattle.fws_iv.proofs.ranges.+parts_of_ranges.Goals as goal

pub returns-clause-members : goal.returns-clause-members
returns-clause-members t c =
    let ranges = c.args.ranges.now in
    of_halves (length ranges / 2) ranges c.in_ok-first.first.items c.in_ok-second.second.items c.union_into.new.out.items
    c.in_ok-first.ensures.members c.in_ok-second.ensures.members
    (rw (← c.deref.ensures.value, ← c.deref-2.ensures.value) c.in_ok-union_into.ensures.members)
