use Rattle.std.proofs.Common.{arith}
use Rattle.std.proofs.lemmas.List.Sorted.{IsNonDecreasingBy-from_all_adjacent}
use Rattle.fws_tree.proofs.held.rise.Goals as goal

pub returns : goal.returns
returns c = λ e. let past = c.loop-k-test.false in IsNonDecreasingBy-from_all_adjacent (λ s. s.hi) c.args.steps.now (λ k d lt. c.loop-k.invariant k d (omega arith))
