use Rattle.std.proofs.Common.{◌+◌, ◌≤◌, refl, ◌∙◌, ap, arith}
use Rattle.fws_exec.proofs.Coursing.{part_order}
use Rattle.fws_exec.proofs.Telling.{keeps_by, keeps_same, keeps_then}
use Rattle.fws_exec.proofs.sheet.Sheet.walk.Goals as goal

pub loop-place-init : goal.loop-place-init
loop-place-init c = record {
  sheet = c.in_ok-note_all.ensures.sheet;
  tops = c.note_all.ensures.tops ∙ c.requires.tops;
  same = refl;
  kept = keeps_same c.args.errand.now c.note_all.new.self;
  low = c.next_waited-place.ensures.low (part_order c.args.errand.now.code.now c.args.errand.now.part c.requires.part);
  high = c.next_waited-place.ensures.high;
}

pub loop-place-preserved : goal.loop-place-preserved
loop-place-preserved c =
    let within : c.loop-place.place + 1 ≤ c.args.errand.now.part.past = (let lt = c.loop-place-test.true in omega arith) in
    let next = c.next_waited-place-in-loop-place.ensures.low within in
    let low = c.loop-place.invariant.low in
    record {
      sheet = c.in_ok-step.ensures.sheet;
      tops = c.step.ensures.tops ∙ c.loop-place.invariant.tops;
      same = c.step.ensures.tops ∙ c.loop-place.invariant.same;
      kept = keeps_then c.args.errand.now c.note_all.new.self c.loop-place.self c.step.new.self c.loop-place.invariant.kept c.in_ok-step.ensures.kept;
      low = omega arith;
      high = c.next_waited-place-in-loop-place.ensures.high;
    }

pub returns-clause-kept : goal.returns-clause-kept
returns-clause-kept c =
    keeps_then c.args.errand.now c.args.self.now c.note_all.new.self c.loop-place.self (keeps_by c.args.errand.now c.args.self.now c.note_all.new.self c.requires.tops (ap (λ v. v.items) c.note_all.ensures.reached) c.in_ok-note_all.ensures.kept)
    c.loop-place.invariant.kept
