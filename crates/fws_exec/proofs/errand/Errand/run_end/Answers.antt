use Rattle.std.proofs.Common.{◌+◌, ◌<◌, get_or, length, ◌∙◌, ap, arith}
use Rattle.std.specs.List.{list_all}
use Rattle.fws_exec.specs.Runs.{leaves, run_of}
use Rattle.fws_exec.specs.Views.{is_tagless}
use Rattle.fws_exec.proofs.Running.{all_less, all_more, run_more}
use Rattle.fws_exec.proofs.errand.Errand.run_end.Goals as goal

pub loop-past-preserved : goal.loop-past-preserved
loop-past-preserved c =
    let ahead : c.loop-past.past < c.bound_by-bound.result = omega arith in
    let within : c.loop-past.past < length c.args.self.now.code.now = (let most = c.loop-past.invariant.within in let limit = c.requires.within in omega arith) in
    let some : 0 < c.loop-past.past + 1 = omega arith in
    record {
      first = (let le = c.loop-past.invariant.first in omega arith);
      below = omega arith;
      within = (let a = c.bound_by-bound.ensures.bound in let b = c.loop-past.invariant.within in omega arith);
      leaves = ap (λ xs. list_all (λ ins. leaves c.bound_by-bound.result ins.act) xs) (run_more c.args.self.now.code.now c.args.place c.loop-past.past c.index-self-past.result c.loop-past.invariant.first within)
          ∙ all_more (λ ins. leaves c.bound_by-bound.result ins.act) (run_of c.args.self.now.code.now c.args.place c.loop-past.past) (get_or c.args.self.now.code.now c.loop-past.past c.index-self-past.result)
          (all_less c.bound_by-bound.result c.loop-past.most (run_of c.args.self.now.code.now c.args.place c.loop-past.past) c.bound_by-bound.ensures.bound c.loop-past.invariant.leaves)
          (c.bound_by-bound.ensures.leaves c.bound_by-bound.result (omega arith) (omega arith));
      tagless = ap (λ xs. list_all (λ ins. is_tagless ins.cond) xs) (run_more c.args.self.now.code.now c.args.place c.loop-past.past c.index-self-past.result c.loop-past.invariant.first within)
          ∙ all_more (λ ins. is_tagless ins.cond) (run_of c.args.self.now.code.now c.args.place c.loop-past.past) (get_or c.args.self.now.code.now c.loop-past.past c.index-self-past.result) c.loop-past.invariant.tagless (c.is_plain.ensures c.if-not-is_plain.false);
    }

pub returns-then-is_waited-clause-leaves : goal.returns-then-is_waited-clause-leaves
returns-then-is_waited-clause-leaves c = all_less c.loop-past.past c.loop-past.most (run_of c.args.self.now.code.now c.args.place c.loop-past.past) c.loop-past.invariant.below c.loop-past.invariant.leaves

pub returns-then-not-is_plain-clause-leaves : goal.returns-then-not-is_plain-clause-leaves
returns-then-not-is_plain-clause-leaves c = all_less c.loop-past.past c.loop-past.most (run_of c.args.self.now.code.now c.args.place c.loop-past.past) c.loop-past.invariant.below c.loop-past.invariant.leaves

pub returns-then-bound-past-clause-leaves : goal.returns-then-bound-past-clause-leaves
returns-then-bound-past-clause-leaves c = all_less c.loop-past.past c.loop-past.most (run_of c.args.self.now.code.now c.args.place c.loop-past.past) c.loop-past.invariant.below c.loop-past.invariant.leaves

pub returns-clause-leaves : goal.returns-clause-leaves
returns-clause-leaves c = all_less c.loop-past.past c.loop-past.most (run_of c.args.self.now.code.now c.args.place c.loop-past.past) c.loop-past.invariant.below c.loop-past.invariant.leaves
