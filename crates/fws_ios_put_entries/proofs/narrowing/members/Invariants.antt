use Rattle.fws_ios_put_entries.specs.Narrowing.{AreMembers}
use Rattle.fws_ios_put_entries.proofs.narrowing.members.Given as goal

abbrev pub invariant-loop-v : goal.invariant-loop-v
invariant-loop-v l = AreMembers l.set l.v l.numbers
