use Rattle.std.proofs.Common.{◌≡◌, length}
use Rattle.fws_unfold.specs.Blocks.{AreBlocks}
use Rattle.fws_unfold.specs.Told.{AreToldBlocks}
use Rattle.fws_unfold.proofs.blocks.put_blocks.Given as goal

abbrev pub invariant-loop-c : goal.invariant-loop-c
invariant-loop-c l = record {
  blocks : AreBlocks l.f l.code.items l.spans.items;
  tells : AreToldBlocks l.f l.code.items l.rules.items l.spans.items;
  even : length l.rules.items ≡ length l.code.items;
  counted : length l.spans.items ≡ l.c;
}
