use Rattle.std.proofs.Common.{◌≡◌, Some, get_or, slice_get, refl}
use Rattle.std.proofs.lemmas.Option.{slice_get-get_or}
use Rattle.fws_pf_put_filter.specs.States.{state_at}
use Rattle.fws_pf_put_filter.proofs.nodes.put_untested.Goals as goal

pub returns : goal.returns
returns c =
    let kids = c.args.kids.now in
    let kid = get_or kids 0 c.index-kids-0.result in
    let there : slice_get kids 0 ≡ Some kid = slice_get-get_or kids 0 c.index-kids-0.result c.requires.some in
    let last = c.in_ok-put_last.ensures in
    (last.0, last.1, record { default = state_at c.args.plan.now.states.now kid.node; is_kid = (0, kid, there, refl); ends = last.2 })
