use Rattle.std.proofs.Common.{◌+◌, false, drop, get_or, refl, ◌∙◌}
use Rattle.fws_flat.specs.declared.code.Part.{Part}
use Rattle.fws_exec.specs.Stages.{through_part, through_parts}
use Rattle.fws_exec.proofs.Meaning.{parts_from, none_left}
use Rattle.fws_exec.proofs.Telling.{comes_same, comes_then, comes_all}
use Rattle.fws_exec.proofs.sheet.Sheet.run.Goals as goal

pub loop-part-init : goal.loop-part-init
loop-part-init c = record {
  sheet = c.requires.sheet;
  tops = c.requires.tops;
  same = refl;
  between = c.requires.between;
  meant = comes_same c.args.purpose.now.site.now c.args.self.now (through_parts c.args.purpose.now.code.now c.args.purpose.now.site.now c.args.purpose.now.state c.args.stage c.args.parts.now);
}

pub loop-part-preserved : goal.loop-part-preserved
loop-part-preserved c = record {
  sheet = c.in_ok-run_part.ensures.sheet;
  tops = c.run_part.ensures.tops ∙ c.loop-part.invariant.tops;
  same = c.run_part.ensures.tops ∙ c.loop-part.invariant.same;
  between = c.in_ok-run_part.ensures.between;
  meant = (
      let none : Part = record { first = 0; past = 0; shows_recv = false; shows_xmit = false; outward = false; end = false } in
      comes_then c.args.purpose.now.site.now c.args.self.now c.loop-part.self c.run_part.new.self
      (through_parts c.args.purpose.now.code.now c.args.purpose.now.site.now c.args.purpose.now.state c.args.stage c.args.parts.now)
      (through_parts c.args.purpose.now.code.now c.args.purpose.now.site.now c.args.purpose.now.state c.args.stage (drop c.loop-part.part-index c.args.parts.now))
      (through_parts c.args.purpose.now.code.now c.args.purpose.now.site.now c.args.purpose.now.state c.args.stage (drop (c.loop-part.part-index + 1) c.args.parts.now))
      (through_part c.args.purpose.now.code.now c.args.purpose.now.site.now c.args.purpose.now.state c.args.stage (get_or c.args.parts.now c.loop-part.part-index none))
      (λ aim p other t. parts_from c.args.purpose.now.code.now c.args.purpose.now.site.now c.args.purpose.now.state c.args.stage c.args.parts.now c.loop-part.part-index none aim p c.loop-part-test.true other t)
      c.loop-part.invariant.meant c.in_ok-run_part.ensures.meant);
}

pub returns-clause-meant : goal.returns-clause-meant
returns-clause-meant c =
    comes_all c.args.purpose.now.site.now c.args.self.now c.loop-part.self
    (through_parts c.args.purpose.now.code.now c.args.purpose.now.site.now c.args.purpose.now.state c.args.stage c.args.parts.now)
    (through_parts c.args.purpose.now.code.now c.args.purpose.now.site.now c.args.purpose.now.state c.args.stage (drop c.loop-part.part-index c.args.parts.now))
    (λ aim p other t. none_left c.args.purpose.now.code.now c.args.purpose.now.site.now c.args.purpose.now.state c.args.stage c.args.parts.now c.loop-part.part-index aim p c.loop-part-test.false other t)
    c.loop-part.invariant.meant
