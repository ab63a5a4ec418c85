use Rattle.fws_tree.proofs.PathRows.{put_back}
use Rattle.fws_tree.proofs.paths.put_side.Goals as goal

pub returns-then-field-lt12-clause-back : goal.returns-then-field-lt12-clause-back
returns-then-field-lt12-clause-back c = put_back c.args.sides.now c.args.field 12 _ c.replace.result c.index-sides-field.result c.told-sides c.if-field-lt12.true c.replace.ensures.value
