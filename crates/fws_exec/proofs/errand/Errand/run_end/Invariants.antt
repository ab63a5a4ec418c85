use Rattle.std.proofs.Common.{◌≡◌, ◌-◌, ◌≤◌, true}
use Rattle.std.specs.List.{list_all}
use Rattle.fws_exec.specs.Runs.{leaves, run_of}
use Rattle.fws_exec.specs.Views.{is_tagless}
use Rattle.fws_exec.proofs.errand.Errand.run_end.Given as goal

abbrev pub invariant-loop-past : goal.invariant-loop-past
invariant-loop-past l = record {
  first : l.place ≤ l.past;
  below : l.past ≤ l.most;
  within : l.most ≤ l.limit;
  leaves : list_all (λ ins. leaves l.most ins.act) (run_of l.self.code.now l.place l.past) ≡ true;
  tagless : list_all (λ ins. is_tagless ins.cond) (run_of l.self.code.now l.place l.past) ≡ true;
}

abbrev pub decreases-loop-past : goal.decreases-loop-past
decreases-loop-past l = l.most - l.past
