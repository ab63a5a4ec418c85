use Rattle.std.proofs.Common.{subst, ◌∙◌}
use Rattle.std.proofs.lemmas.List.{take_all}
use Rattle.fws_pf_put.specs.Gathered.{AreSets}
use Rattle.fws_pf_put.proofs.Gathers.{sets_more}
use Rattle.fws_pf_put.proofs.telling.sets_of.Goals as goal

pub loop-row-preserved : goal.loop-row-preserved
loop-row-preserved c = (
  c.put_row.ensures.size ∙ c.loop-row.invariant.0,
  sets_more c.args.ends.now.keys c.loop-row.sets.items c.put_row.new.sets.items c.args.rows.now c.loop-row.row-index c.row-item.result c.loop-row-test.true c.row-item.is
      c.loop-row.invariant.1 c.in_ok-put_row.ensures.row,
)

pub returns-clause-sets : goal.returns-clause-sets
returns-clause-sets c =
    subst (AreSets c.args.ends.now.keys c.loop-row.sets.items) (take_all c.loop-row.row-index c.args.rows.now c.loop-row-test.false) c.loop-row.invariant.1
