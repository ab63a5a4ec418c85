use Rattle.std.proofs.Common.{◌<◌, ◌∙◌, ap, sym}
use Rattle.std.proofs.lemmas.List.Elements.{All-push}
use Rattle.fws_tree.specs.Merged.{left_at, right_at}
use Rattle.fws_tree.proofs.Steps.{left_at-push, right_at-push}
use Rattle.fws_tree.proofs.together.meet_steps.Goals as goal

pub loop-t-preserved : goal.loop-t-preserved
loop-t-preserved c = record {
  i = c.in-Some.ensures.goes.0;
  j = c.in-Some.ensures.goes.1;
  left = λ x. rw c.in_ok-push.ensures.items (left_at-push _ _ _ x ∙ ap (λ z. left_at c.loop-t.out.items z x) (sym (c.in-Some.ensures.left x)) ∙ c.loop-t.invariant.left x);
  right = λ x. rw c.in_ok-push.ensures.items (right_at-push _ _ _ x ∙ ap (λ z. right_at c.loop-t.out.items z x) (sym (c.in-Some.ensures.right x)) ∙ c.loop-t.invariant.right x);
  below = λ n m a b d e. rw c.in_ok-push.ensures.items (All-push (λ s. (s.left < n) × (s.right < m)) _ _ (c.loop-t.invariant.below n m a b d e) (c.in-Some.ensures.below n m a b d e));
}
