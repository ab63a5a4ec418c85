use Rattle.std.proofs.Common.{All, List, sym, subst}
use Rattle.std.proofs.lemmas.List.Elements.{All-push}
use Rattle.fws_tree.specs.declared.touch.Touch.{Touch}
use Rattle.fws_tree.specs.Touched.{IsMet}
use Rattle.fws_tree.proofs.Touching.{labels-more}
use Rattle.fws_tree.proofs.touched.touches_at.Goals as goal

pub loop-place-preserved : goal.loop-place-preserved
loop-place-preserved c =
    let added = c.in_ok-add_touch.ensures.added in
    let P : Touch → Type 0 = λ t. IsMet c.args.tops.now c.args.store.now c.args.root c.args.marked c.args.called.now t in
    record {
      rising = c.in_ok-add_touch.ensures.rising;
      labels = labels-more c.args.labels.now.keys c.loop-place.touches.items c.add_touch.new.touches.items c.touch_at-touch.result added.0 c.loop-place.place c.loop-place.invariant.labels added.1 c.touch_at-touch.ensures added.3;
      met = subst (λ (ts : List Touch). All P ts) (sym added.3) (All-push P c.loop-place.touches.items added.0 c.loop-place.invariant.met added.2);
    }
