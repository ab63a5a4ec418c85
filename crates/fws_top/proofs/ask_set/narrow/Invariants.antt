use Rattle.std.proofs.Common.{◌≡◌, ℕ, List, ◌&&◌, true, drop}
use Rattle.fws_net.specs.Points.{tops_of}
use Rattle.fws_box.specs.Sides.{IsWithin, sides_have}
use Rattle.fws_top.specs.Asks.{are_asks, asks_have}
use Rattle.fws_top.proofs.ask_set.narrow.Given as goal

abbrev pub invariant-loop-word : goal.invariant-loop-word
invariant-loop-word l = record {
  spelled : are_asks (drop l.word-index l.words) ≡ true;
  so_far : (p : List ℕ) → IsWithin (tops_of l.site) p → (sides_have l.sides p && asks_have l.site (drop l.word-index l.words) p) ≡ (sides_have l.initial.sides p && asks_have l.site l.words p);
}
