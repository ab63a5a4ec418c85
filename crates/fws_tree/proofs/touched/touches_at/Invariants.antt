use Rattle.std.proofs.Common.{◌≡◌, map, take, All}
use Rattle.fws_tree.specs.Rising.{AreRising}
use Rattle.fws_tree.specs.Touched.{IsMet}
use Rattle.fws_tree.proofs.touched.touches_at.Given as goal

abbrev pub invariant-loop-place : goal.invariant-loop-place
invariant-loop-place l = record {
  rising : AreRising l.store l.rising;
  labels : map (λ t. t.label) l.touches.items ≡ take l.place l.labels.keys;
  met : All (λ t. IsMet l.tops l.store l.root l.marked l.called t) l.touches.items;
}
