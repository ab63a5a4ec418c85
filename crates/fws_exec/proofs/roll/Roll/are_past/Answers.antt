use Rattle.std.proofs.Common.{get_or, sym, ◌∙◌, ap, arith}
use Rattle.fws_exec.proofs.Pasts.{past_step, past_end}
use Rattle.fws_exec.proofs.roll.Roll.are_past.Goals as goal

pub loop-class-preserved : goal.loop-class-preserved
loop-class-preserved c = record {
  none = past_step c.args.self.now.classes.items c.loop-class.class-index c.args.place c.class-item.result (omega arith)
      (c.class-item.is ∙ ap (λ cs. get_or cs c.loop-class.class-index c.class-item.result) c.as_slice-class-items.ensures.value) (sym c.is_before.ensures ∙ c.if-is_before.false) c.loop-class.invariant.none;
}

pub returns : goal.returns
returns c t n = past_end c.args.self.now.classes.items c.loop-class.class-index c.args.place (omega arith) c.loop-class.invariant.none n
