use Rattle.std.proofs.Common.{◌≡◌, ◌≤◌, ◌<◌, ◌+◌, ◌*◌, ℕ, true, List, ◌++◌, All}
use Rattle.fws_num.specs.declared.prefix.Prefix.{Prefix}
use Rattle.fws_iv.specs.Prefixes.{IsBlock, some_prefix_has}
use Rattle.fws_pf_put.proofs.blocks.put_parts.Given as goal

abbrev pub invariant-loop-k : goal.invariant-loop-k
invariant-loop-k l =
    (more : List Prefix) × (l.blocks ≡ l.fn.blocks ++ more) × All (λ part. IsBlock part × (l.len ≤ part.len)) more
    × ((v : ℕ) → l.block.addr ≤ v → v < l.block.addr + l.k * l.size → some_prefix_has more v ≡ true)
