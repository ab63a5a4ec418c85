use Rattle.std.proofs.Common.{◌≡◌, ℕ, ◌<◌, List, drop}
use Rattle.std.specs.List.{AllByRecursion}
use Rattle.fws_tree.specs.Plain.{Plain, kid_at}
use Rattle.fws_tree.specs.Nodes.{kids_over}
use Rattle.fws_tree.proofs.walk.find_kid.Given as goal

abbrev pub invariant-loop-kid : goal.invariant-loop-kid
invariant-loop-kid l = record {
  left : (trees : List (Plain ℕ)) → kid_at (kids_over trees (drop l.kid-index l.kids)) l.x ≡ kid_at (kids_over trees l.kids) l.x;
  below : (n : ℕ) → AllByRecursion (λ k. k.node < n) l.kids → AllByRecursion (λ k. k.node < n) (drop l.kid-index l.kids);
}
