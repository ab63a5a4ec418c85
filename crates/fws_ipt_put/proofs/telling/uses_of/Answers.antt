use Rattle.std.proofs.Common.{subst, ◌∙◌}
use Rattle.std.proofs.lemmas.List.{take_all}
use Rattle.fws_ipt_put.specs.Gathered.{AreUses}
use Rattle.fws_ipt_put.proofs.Gathering.{uses_more}
use Rattle.fws_ipt_put.proofs.telling.uses_of.Goals as goal

pub loop-row-preserved : goal.loop-row-preserved
loop-row-preserved c = (
  c.put_row.ensures.size ∙ c.loop-row.invariant.0,
  uses_more c.args.rewrites.now.keys c.loop-row.uses.items c.put_row.new.uses.items c.args.rows.now c.loop-row.row-index c.row-item.result c.loop-row-test.true c.row-item.is
      c.loop-row.invariant.1 c.in_ok-put_row.ensures.row,
)

pub returns-clause-uses : goal.returns-clause-uses
returns-clause-uses c =
    subst (AreUses c.args.rewrites.now.keys c.loop-row.uses.items) (take_all c.loop-row.row-index c.args.rows.now c.loop-row-test.false) c.loop-row.invariant.1
