use Rattle.std.proofs.Common.{◌≤◌, length, sym, subst}
use Rattle.fws_pfo_ifcl.proofs.Deciding.{tail_within}
use Rattle.fws_pfo_ifcl.proofs.filter.put_filter_rules.Goals as goal

pub split_at-requires : goal.split_at-requires
split_at-requires c =
    let all = c.args.all.now in
    subst (λ n. n ≤ length all) (sym c.tail_place.ensures) (tail_within c.args.frame.now.outward all)
