use Rattle.std.proofs.Common.{◌≡◌, ◌<◌, ℕ, true, nat_eq, get_or}
use Rattle.std.specs.List.{list_any}
use Rattle.fws_unfold.specs.Finding.{Found, Grows}
use Rattle.fws_unfold.proofs.reaching.find_named.Given as goal

abbrev pub invariant-loop-d : goal.invariant-loop-d
invariant-loop-d l = record {
  found : Found l.calls.chains.now l.c l.seen.items l.queue.items;
  grown : Grows l.fn.queue.items l.queue.items;
  there : (k : ℕ) → k < l.d-index → list_any (nat_eq (get_or l.d-items k 0)) l.queue.items ≡ true;
}
