use Rattle.std.proofs.Common.{subst}
use Rattle.std.proofs.lemmas.List.{take_all}
use Rattle.fws_ipfw_put.specs.Ends.{HaveSources}
use Rattle.fws_ipfw_put.proofs.Gathered.{sources_more}
use Rattle.fws_ipfw_put.proofs.telling.sources_in.Goals as goal

pub loop-row-preserved : goal.loop-row-preserved
loop-row-preserved c =
    let e = c.in_ok-put_source.ensures in
    sources_more c.loop-row.ends.keys c.put_source.new.ends.keys c.args.rows.now c.loop-row.row-index c.row-item.result c.loop-row-test.true c.row-item.is
    c.loop-row.invariant e.there e.extends

pub returns : goal.returns
returns c = subst (HaveSources c.loop-row.ends.keys) (take_all c.loop-row.row-index c.args.rows.now c.loop-row-test.false) c.loop-row.invariant
