use Rattle.std.proofs.Common.{◌≡◌, ◌<◌, Some, get_or, length, slice_get, subst}
use Rattle.fws_ipt_put.proofs.MarksTold.{marks_more}
use Rattle.fws_ipt_put.proofs.marking.marks_of.Goals as goal

pub loop-rewrite-preserved : goal.loop-rewrite-preserved
loop-rewrite-preserved c =
    let keys = c.args.rewrites.now.keys in
    let i = c.loop-rewrite.rewrite-index in
    let w = c.rewrite-item.result in
    let e = c.as_slice-rewrite-items.ensures.keys in
    let below : i < length keys = subst (λ l. i < length l) e c.loop-rewrite-test.true in
    let is : w ≡ get_or keys i w = subst (λ l. w ≡ get_or l i w) e c.rewrite-item.is in
    let used = c.uses_for-used.ensures in
    let at : slice_get c.in_ok-uses.uses.items used.0 ≡ Some c.uses_for-used.result.now = subst (λ l. slice_get l used.0 ≡ Some c.uses_for-used.result.now) c.as_slice.ensures.value used.2 in
    marks_more c.args.rows.now keys c.loop-rewrite.marks.items c.push.new.self.items c.in_ok-mark_of.field-0 i w below is c.loop-rewrite.invariant.0 c.loop-rewrite.invariant.1
    c.in_ok-mark_of.ensures.rewrite (c.in_ok-mark_of.ensures.tells c.args.rows.now (c.in_ok-uses.ensures.uses w used.0 c.uses_for-used.result.now used.1 at)) c.in_ok-push.ensures.items
