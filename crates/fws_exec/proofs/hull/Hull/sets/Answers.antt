use Rattle.std.proofs.Common.{◌≡◌, ◌≤◌, true, get_or, arith, rules}
use Rattle.fws_iv.specs.Ivs.{has}
use Rattle.fws_exec.proofs.Bounding.{more_sets}
use Rattle.fws_exec.proofs.hull.Hull.sets.Goals as goal

pub loop-k-preserved : goal.loop-k-preserved
loop-k-preserved c = record {
  twelve = search rules;
  done = λ j v. more_sets (λ i s. get_or c.args.self.now.lo i 0 ≤ v → v ≤ get_or c.args.self.now.hi i 0 → has s v ≡ true) c.loop-k.sets c.loop-k.k _ (omega arith) (c.in_ok-sets.ensures v) (λ i lt. c.loop-k.invariant.done i v lt) j;
}

pub returns-clause-each : goal.returns-clause-each
returns-clause-each c k v lt = c.loop-k.invariant.done k v (omega arith)
