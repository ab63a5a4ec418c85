use Rattle.std.proofs.Common.{take}
use Rattle.fws_ios_put_cover.specs.Inside.{AreFurther, HaveRows}
use Rattle.fws_ios_put_cover.proofs.parts.put_rows.Given as goal

abbrev pub invariant-loop-row : goal.invariant-loop-row
invariant-loop-row l = AreFurther l.site l.established l.within.1 l.initial.kept.keys l.kept.keys × HaveRows l.site l.established (take l.row-index l.rows) l.kept.keys
