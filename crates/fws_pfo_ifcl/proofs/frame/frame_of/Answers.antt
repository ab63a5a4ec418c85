use Rattle.std.proofs.Common.{◌≤◌, length, sym, subst}
use Rattle.fws_pfo_ifcl.proofs.Deciding.{tail_within}
use Rattle.fws_pfo_ifcl.proofs.frame.frame_of.Goals as goal

pub split_at-requires : goal.split_at-requires
split_at-requires c =
    let rules = c.as_slice-rules.result.now in
    subst (λ n. n ≤ length rules) (sym c.tail_place.ensures) (tail_within c.args.outward rules)
