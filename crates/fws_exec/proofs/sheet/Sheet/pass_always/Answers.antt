use Rattle.std.proofs.Common.{refl, ◌∙◌, ap}
use Rattle.fws_exec.proofs.Telling.{keeps_same, keeps_then}
use Rattle.fws_net.specs.Conditions.{holds}
use Rattle.fws_exec.specs.Divided.{seen_at}
use Rattle.fws_exec.proofs.sheet.Sheet.pass_always.Goals as goal

pub loop-number-init : goal.loop-number-init
loop-number-init c = record {
  sheet = c.requires.sheet;
  tops = c.requires.tops;
  same = refl;
  kept = keeps_same c.args.errand.now c.args.self.now;
}

pub loop-number-preserved : goal.loop-number-preserved
loop-number-preserved c = record {
  sheet = c.in_ok-pass_whole.ensures.sheet;
  tops = c.pass_whole.ensures.tops ∙ c.loop-number.invariant.tops;
  same = c.pass_whole.ensures.tops ∙ c.loop-number.invariant.same;
  kept = keeps_then c.args.errand.now c.args.self.now c.loop-number.self c.pass_whole.new.self c.loop-number.invariant.kept c.in_ok-pass_whole.ensures.kept;
}

pub pass_whole-requires-clause-held : goal.pass_whole-requires-clause-held
pass_whole-requires-clause-held c ins d p got used inside here =
    ap (λ ls. holds ls (seen_at c.args.errand.now.ground.site.now c.args.errand.now.ground.state c.args.errand.now.part d.progress p)) (c.requires.always ins got)
