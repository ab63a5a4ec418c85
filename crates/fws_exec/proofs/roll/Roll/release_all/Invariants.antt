use Rattle.fws_exec.specs.Joined.{is_joined, AreReleased}
use Rattle.fws_exec.proofs.roll.Roll.release_all.Given as goal

abbrev pub invariant-loop-number : goal.invariant-loop-number
invariant-loop-number l = AreReleased (is_joined l.twins l.joined) l.initial.self.classes.items l.self.classes.items
