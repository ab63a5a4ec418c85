use Rattle.fws_iv.specs.Ivs.{has}
use Rattle.fws_box.specs.Fields.{value_of}
use Rattle.fws_box_conditions.specs.Kept.{AreThose}
use Rattle.fws_box_conditions.proofs.kept.those_in.Given as goal

abbrev pub invariant-loop-area : goal.invariant-loop-area
invariant-loop-area l = AreThose l.yielded (λ p. has l.set (value_of p l.field)) l.kept.items
