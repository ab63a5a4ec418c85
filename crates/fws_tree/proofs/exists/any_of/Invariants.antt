use Rattle.std.proofs.Common.{◌≡◌, ℕ, ◌<◌, List, length, get_or, drop}
use Rattle.fws_tree.specs.Building.{Extends}
use Rattle.fws_tree.specs.Held.{AreOrderedFrom, held_at}
use Rattle.fws_tree.specs.Projected.{any_of}
use Rattle.fws_tree.proofs.exists.any_of.Given as goal

abbrev pub invariant-loop-kid : goal.invariant-loop-kid
invariant-loop-kid l = record {
  ordered : AreOrderedFrom 0 l.store;
  extends : Extends l.fn.store l.store;
  inside : l.any < length l.store;
  held : (p : List ℕ) → any_of (λ n. held_at l.fn.store (get_or l.at n 0) p) (held_at l.store l.any p) (drop l.kid-index l.kids) ≡ any_of (λ n. held_at l.fn.store (get_or l.at n 0) p) (held_at l.fn.store l.rest p) l.kids;
}
