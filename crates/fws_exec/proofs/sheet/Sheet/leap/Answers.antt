use Rattle.std.proofs.Common.{refl, ◌∙◌}
use Rattle.fws_exec.proofs.Telling.{keeps_same, keeps_then}
use Rattle.fws_exec.proofs.sheet.Sheet.leap.Goals as goal

pub loop-number-init : goal.loop-number-init
loop-number-init c = record {
  sheet = c.requires.sheet;
  tops = c.requires.tops;
  same = refl;
  kept = keeps_same c.args.errand.now c.args.self.now;
}

pub loop-number-preserved : goal.loop-number-preserved
loop-number-preserved c = record {
  sheet = c.in_ok-leap_one.ensures.sheet;
  tops = c.leap_one.ensures.tops ∙ c.loop-number.invariant.tops;
  same = c.leap_one.ensures.tops ∙ c.loop-number.invariant.same;
  kept = keeps_then c.args.errand.now c.args.self.now c.loop-number.self c.leap_one.new.self c.loop-number.invariant.kept c.in_ok-leap_one.ensures.kept;
}
