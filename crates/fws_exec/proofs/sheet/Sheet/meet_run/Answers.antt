use Rattle.std.proofs.Common.{◌≡◌, ◌<◌, refl, ◌∙◌, subst, arith}
use Rattle.std.proofs.Math.Nat.{le_refl}
use Rattle.fws_exec.specs.declared.spot.Spot.TheVariants.{At}
use Rattle.fws_exec.specs.Passing.{Passed}
use Rattle.fws_exec.specs.Sheets.{among}
use Rattle.fws_exec.proofs.Moved.{at_grows}
use Rattle.fws_exec.proofs.Passed.{onward_less, onward_same, onward_then, passed_on, passed_same}
use Rattle.fws_exec.proofs.sheet.Sheet.meet_run.Goals as goal

pub meet_ins-requires-clause-here : goal.meet_ins-requires-clause-here
meet_ins-requires-clause-here c = (c.args.place, c.loop-at.invariant.low, at_grows (At c.args.place) c.args.self.now.roll.classes.items c.loop-at.self.roll.classes.items (among c.args.numbers.now) refl c.loop-at.invariant.onward.grows c.requires.here)

pub loop-at-init : goal.loop-at-init
loop-at-init c = record {
  sheet = c.requires.sheet;
  tops = c.requires.tops;
  same = refl;
  low = le_refl c.args.place;
  passed = passed_same c.args.errand.now (among c.args.numbers.now) c.args.place c.args.self.now;
  onward = onward_same c.args.place c.args.self.now.roll.classes.items;
}

pub loop-at-preserved : goal.loop-at-preserved
loop-at-preserved c = record {
  sheet = c.in_ok-meet_ins.ensures.sheet;
  tops = c.meet_ins.ensures.tops ∙ c.loop-at.invariant.tops;
  same = c.meet_ins.ensures.tops ∙ c.loop-at.invariant.same;
  low = (let le = c.loop-at.invariant.low in omega arith);
  passed = passed_on c.args.errand.now (among c.args.numbers.now) c.args.place c.loop-at.at c.args.self.now c.loop-at.self c.meet_ins.new.self c.requires.sheet c.loop-at.invariant.low c.loop-at.invariant.onward.grows c.in_ok-meet_ins.ensures.onward.grows c.loop-at.invariant.same
      (at_grows (At c.args.place) c.args.self.now.roll.classes.items c.loop-at.self.roll.classes.items (among c.args.numbers.now) refl c.loop-at.invariant.onward.grows c.requires.here)
      c.loop-at.invariant.passed c.in_ok-meet_ins.ensures.passed;
  onward = onward_then c.args.place c.args.self.now.roll.classes.items c.loop-at.self.roll.classes.items c.meet_ins.new.self.roll.classes.items c.loop-at.invariant.onward
      (onward_less c.args.place c.loop-at.at c.loop-at.self.roll.classes.items c.meet_ins.new.self.roll.classes.items c.loop-at.invariant.low c.in_ok-meet_ins.ensures.onward);
}

pub returns-clause-passed : goal.returns-clause-passed
returns-clause-passed c =
    let lt : c.args.place < c.args.past = c.requires.later in
    let end : c.loop-at.at ≡ c.args.past = omega arith in
    subst (λ k. Passed c.args.errand.now (among c.args.numbers.now) c.args.place k c.args.self.now c.loop-at.self) end c.loop-at.invariant.passed
