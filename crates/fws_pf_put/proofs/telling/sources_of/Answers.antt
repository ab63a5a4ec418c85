use Rattle.std.proofs.Common.{subst}
use Rattle.fws_pf_put.specs.Gathered.{AreSets, HaveSources}
use Rattle.fws_pf_put.proofs.Gathers.{sources_told}
use Rattle.fws_pf_put.proofs.telling.sources_of.Goals as goal

pub returns : goal.returns
returns c =
    sources_told c.args.fresh.now.0 c.args.fresh.now.1 c.in_ok-rows.rows.items c.in_ok-ends.ends.keys c.in_ok-sets.sets.items
    (subst (HaveSources c.in_ok-ends.ends.keys) c.as_slice.ensures.value c.in_ok-ends.ensures)
    c.in_ok-sets.ensures.size
    (subst (AreSets c.in_ok-ends.ends.keys c.in_ok-sets.sets.items) c.as_slice-2.ensures.value c.in_ok-sets.ensures.sets)
    c.in_ok-rows.ensures.once c.in_ok-rows.ensures.right
