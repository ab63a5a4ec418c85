use Rattle.std.proofs.Common.{subst}
use Rattle.fws_ipfw_put.specs.Ends.{HaveSources}
use Rattle.fws_ipfw_put.proofs.Gathered.{has_sources}
use Rattle.fws_ipfw_put.proofs.telling.sources_of.Goals as goal

pub returns : goal.returns
returns c =
    has_sources c.args.fresh.now.0 c.args.fresh.now.1 c.in_ok-rows.rows.items c.in_ok-ends.ends.keys
    (subst (HaveSources c.in_ok-ends.ends.keys) c.as_slice.ensures.value c.in_ok-ends.ensures)
    c.in_ok-rows.ensures.once c.in_ok-rows.ensures.right
