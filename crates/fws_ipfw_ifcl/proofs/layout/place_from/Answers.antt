use Rattle.std.proofs.Common.{◌≡◌, max, slice_index, drop, sym, ap, subst, ◌∙◌}
use Rattle.fws_ipfw_ifcl.specs.Blocks.{place_from}
use Rattle.fws_ipfw_ifcl.proofs.Starts.{placed, never_fall}
use Rattle.fws_ipfw_ifcl.proofs.layout.place_from.Goals as goal

pub count_below-requires : goal.count_below-requires
count_below-requires c = never_fall c.args.rules.now c.requires.ordered

pub returns : goal.returns
returns c nats translated first is =
    let all = c.args.rules.now in
    let behind = c.args.behind in
    let n = c.args.n in
    ap (slice_index c.args.starts.now) c.max-place.ensures
    ∙ subst (λ starts. slice_index starts (max behind c.count_below.result) ≡ place_from nats translated (slice_index starts behind) (drop behind all) n) (sym is)
    (placed nats translated n first all behind c.count_below.result c.requires.within c.count_below.ensures.bound c.count_below.ensures.below c.count_below.ensures.above)
