use Rattle.std.proofs.Common.{◌≡◌, ◌<◌, ℕ, false, length, slice_index_or}
use Rattle.fws_iv.specs.Ivs.{has}
use Rattle.fws_iv.proofs.cube_list.members.Given as goal

abbrev pub invariant-loop-v : goal.invariant-loop-v
invariant-loop-v l = record {
  count : length l.table.items ≡ l.v;
  members : (w : ℕ) → w < l.v → slice_index_or l.table.items w false ≡ has l.set w;
}
