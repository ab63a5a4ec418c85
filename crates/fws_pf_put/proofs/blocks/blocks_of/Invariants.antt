use Rattle.std.proofs.Common.{◌≡◌, ◌≤◌, ℕ, true, take, All}
use Rattle.fws_num.specs.declared.prefix.Prefix.{Prefix}
use Rattle.fws_iv.specs.Prefixes.{IsBlock, some_prefix_has}
use Rattle.fws_pf_put.proofs.blocks.blocks_of.Given as goal

abbrev pub invariant-loop-block : goal.invariant-loop-block
invariant-loop-block l =
    All (λ (block : Prefix). IsBlock block × (l.len ≤ block.len)) l.blocks
    × ((v : ℕ) → some_prefix_has (take l.block-index l.block-items) v ≡ true → some_prefix_has l.blocks v ≡ true)
