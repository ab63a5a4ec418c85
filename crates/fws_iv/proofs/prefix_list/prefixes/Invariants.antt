use Rattle.std.proofs.Common.{◌≡◌, ◌≤◌, ℕ, ◌*◌, ◌||◌, drop, length, All}
use Rattle.fws_iv.specs.Ivs.{has, IsRegularFrom}
use Rattle.fws_iv.specs.Prefixes.{some_prefix_has, AscendFrom, behind, IsBlock}
use Rattle.fws_iv.proofs.prefix_list.prefixes.Given as goal

abbrev pub invariant-loop-part : goal.invariant-loop-part
invariant-loop-part l = record {
  sound : All IsBlock l.out.items;
  ascending : AscendFrom 0 l.out.items;
  rest : IsRegularFrom (behind 0 l.out.items) (drop l.part-index l.part-items);
  members : (v : ℕ) → (some_prefix_has l.out.items v || has (drop l.part-index l.part-items) v) ≡ has l.part-items v;
  few : length l.out.items ≤ 62 * l.part-index;
}
