use Rattle.std.proofs.Common.{◌≤◌, length}
use Rattle.fws_unfold.specs.Finding.{Found, AllFound, ClosedTo}
use Rattle.fws_unfold.proofs.reaching.reaches_itself.Given as goal

abbrev pub invariant-loop-k : goal.invariant-loop-k
invariant-loop-k l = record {
  found : Found l.calls.chains.now l.c l.seen.items l.queue.items;
  first : AllFound l.calls.chains.now l.queue.items l.c;
  closed : ClosedTo l.calls.chains.now l.queue.items l.k;
  within : l.k ≤ length l.queue.items;
}
