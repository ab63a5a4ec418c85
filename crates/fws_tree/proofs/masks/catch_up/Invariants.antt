use Rattle.std.proofs.Common.{◌≡◌, length}
use Rattle.fws_tree.specs.Bits.{AreMasks}
use Rattle.fws_tree.proofs.masks.catch_up.Given as goal

abbrev pub invariant-loop-at : goal.invariant-loop-at
invariant-loop-at l = record {
  here : length l.masks.items ≡ l.at;
  masks : AreMasks l.values l.store l.masks.items;
}
