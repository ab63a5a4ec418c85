use Rattle.std.proofs.Common.{subst}
use Rattle.std.proofs.lemmas.List.{take_all}
use Rattle.fws_ipt_put.specs.Gathered.{HaveRewrites}
use Rattle.fws_ipt_put.proofs.Rows.{rewrites_more}
use Rattle.fws_ipt_put.proofs.marking.rewrites_of.Goals as goal

pub loop-row-preserved : goal.loop-row-preserved
loop-row-preserved c =
    let e = c.in_ok-put_outcome.ensures in
    rewrites_more c.loop-row.rewrites.keys c.put_outcome.new.rewrites.keys c.args.rows.now c.loop-row.row-index c.row-item.result c.loop-row-test.true c.row-item.is
    c.loop-row.invariant e.there e.extends

pub returns : goal.returns
returns c = subst (HaveRewrites c.loop-row.rewrites.keys) (take_all c.loop-row.row-index c.args.rows.now c.loop-row-test.false) c.loop-row.invariant
