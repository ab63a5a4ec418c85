use Rattle.std.proofs.Common.{take, refl, ◌∙◌, subst, arith}
use Rattle.std.specs.List.{list_any}
use Rattle.std.proofs.lemmas.List.{take_all}
use Rattle.fws_exec.specs.Divided.{says_from, AreSet}
use Rattle.fws_exec.proofs.Noted.{set_more, set_same}
use Rattle.fws_exec.proofs.noting.note_labels.Goals as goal

pub loop-touch-init : goal.loop-touch-init
loop-touch-init c = record {
  set = set_same (λ k. list_any (λ t. says_from c.args.place t.label k) (take 0 c.args.touches.now)) c.args.reached.now.items (λ k. refl);
  count = refl;
}

pub loop-touch-preserved : goal.loop-touch-preserved
loop-touch-preserved c = record {
  set = set_more c.args.place c.args.touches.now c.loop-touch.touch-index _ c.args.reached.now.items c.loop-touch.reached.items c.note_label.new.reached.items (omega arith) c.loop-touch.invariant.set c.in_ok-note_label.ensures.set;
  count = c.note_label.ensures.count ∙ c.loop-touch.invariant.count;
}

pub returns-clause-set : goal.returns-clause-set
returns-clause-set c =
    subst (λ ts. AreSet (λ k. list_any (λ t. says_from c.args.place t.label k) ts) c.args.reached.now.items c.loop-touch.reached.items) (take_all c.loop-touch.touch-index c.args.touches.now (omega arith)) c.loop-touch.invariant.set
