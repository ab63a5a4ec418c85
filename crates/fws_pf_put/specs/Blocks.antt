-- Sets of addresses as blocks that aren't larger than a network.
use Rattle.std.specs.Prelude.{◌≡◌, ℕ, ◌≤◌, true, List, ◌++◌, All}
use Rattle.fws_iv.specs.declared.iv.Iv.{Iv}
use Rattle.fws_iv.specs.Ivs.{has}
use Rattle.fws_iv.specs.Prefixes.{IsBlock, prefix_has, some_prefix_has}
use Rattle.fws_num.specs.declared.prefix.Prefix.{Prefix}

-- blocks, each of this length or a longer one, with all addresses of a set
pub record AreBlocksOf (len : ℕ) (set : List Iv) (blocks : List Prefix) : Type 0 where
  pub sound : All (λ block. IsBlock block × (len ≤ block.len)) blocks
  pub members : (v : ℕ) → has set v ≡ true → some_prefix_has blocks v ≡ true

-- further blocks, each of this length or a longer one, with all addresses of a block
abbrev pub AddsBlocks : ℕ → Prefix → List Prefix → List Prefix → Type 0
AddsBlocks len block old new =
    (more : List Prefix) × (new ≡ old ++ more) × All (λ part. IsBlock part × (len ≤ part.len)) more
    × ((v : ℕ) → prefix_has block v ≡ true → some_prefix_has more v ≡ true)
