use Rattle.std.proofs.Common.{◌≡◌, [], drop}
use Rattle.fws_pf_words.specs.Stretches.{unfolded}
use Rattle.fws_pf_words.proofs.lists.unfold.Given as goal

abbrev pub invariant-loop-mark : goal.invariant-loop-mark
invariant-loop-mark l = unfolded l.all (drop l.mark-index l.marks) l.rest ≡ unfolded [] l.marks l.kept
