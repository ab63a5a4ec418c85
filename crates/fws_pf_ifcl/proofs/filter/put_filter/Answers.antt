use Rattle.std.proofs.Common.{◌≤◌, length, sym, subst}
use Rattle.fws_pf_ifcl.proofs.Deciding.{tail_within}
use Rattle.fws_pf_ifcl.proofs.filter.put_filter.Goals as goal

pub split_at-requires : goal.split_at-requires
split_at-requires c =
    let filter = c.args.filter.now in
    subst (λ n. n ≤ length filter) (sym c.tail_place.ensures) (tail_within c.args.outward filter)
