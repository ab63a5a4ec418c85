use Rattle.std.proofs.Common.{ℕ, ◌<◌, drop, All}
use Rattle.fws_tree.proofs.Marking.{AreCut}
use Rattle.fws_tree.proofs.halves.cuts_of.Given as goal

abbrev pub invariant-loop-part : goal.invariant-loop-part
invariant-loop-part l = record {
  cut : AreCut l.side l.top l.on l.off l.steps.items (drop l.part-index l.side);
  below : (n : ℕ) → l.on < n → l.off < n → All (λ s. s.node < n) l.steps.items;
}
