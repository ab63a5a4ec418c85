-- What is gathered from the rows of the table of new packets.
use Rattle.std.specs.Prelude.{◌≡◌, ◌≢◌, ℕ, ◌≤◌, true, List, [], ◌++◌, length, All, Some, position, slice_get, slice_index_or}
use Rattle.fws_iv.specs.declared.iv.Iv.{Iv}
use Rattle.fws_iv.specs.Ivs.{has}
use Rattle.fws_iv.specs.Prefixes.{IsBlock, prefix_has, some_prefix_has}
use Rattle.fws_num.specs.declared.prefix.Prefix.{Prefix}
use Rattle.fws_net.specs.declared.outcome.Outcome.{Outcome}
use Rattle.fws_net.specs.declared.outcome.Outcome.TheVariants.{Drop, Accept}
use Rattle.fws_net.specs.declared.outcome.Rewrite.{Rewrite}
use Rattle.fws_tree.specs.declared.row.Row.{Row}
use Rattle.fws_ipt_put.specs.declared.telling.Uses.{Uses}
use Rattle.fws_ipt_put.specs.declared.marks.Mark.{Mark}
use Rattle.fws_ipt_put.specs.Marks.{AreBlocks, FitsEnd, is_network, same_rewrite, writes}

-- a side of a row
abbrev pub side : ℕ → Row Outcome → List Iv
side f row = slice_index_or row.sides f []

-- each member of the one set is a member of the other
abbrev pub IsWithinSet : List Iv → List Iv → Type 0
IsWithinSet s t = (v : ℕ) → has s v ≡ true → has t v ≡ true

-- the sets have what the row's sides have
pub record Covers (uses : Uses) (row : Row Outcome) : Type 0 where
  pub twelve : length row.sides ≡ 12
  pub entries : IsWithinSet (side 0 row) uses.entries
  pub protos : IsWithinSet (side 1 row) uses.protos
  pub dsts : IsWithinSet (side 2 row) uses.dsts
  pub srcs : IsWithinSet (side 4 row) uses.srcs

-- the sets have what the sides of all rows with the rewriting have
abbrev pub CoversAll : Rewrite → Uses → List (Row Outcome) → Type 0
CoversAll w uses rows = All (λ row. row.leaf ≡ Accept w → Covers uses row) rows

-- the sets have what the others have
pub record Grows (old new : Uses) : Type 0 where
  pub entries : IsWithinSet old.entries new.entries
  pub protos : IsWithinSet old.protos new.protos
  pub dsts : IsWithinSet old.dsts new.dsts
  pub srcs : IsWithinSet old.srcs new.srcs

-- the sets at the place of each rewriting have what the sides of all rows with it have
abbrev pub AreUses : List Rewrite → List Uses → List (Row Outcome) → Type 0
AreUses rewrites uses rows =
    (w : Rewrite) (i : ℕ) (u : Uses) → position (same_rewrite w) rewrites ≡ Some i → slice_get uses i ≡ Some u → CoversAll w u rows

-- the sets at the place of the row's rewriting now have what its sides have, and all have what they had
abbrev pub PutsRow : List Rewrite → Row Outcome → List Uses → List Uses → Type 0
PutsRow rewrites row old new =
    (w : Rewrite) (i : ℕ) (u : Uses) → position (same_rewrite w) rewrites ≡ Some i → slice_get new i ≡ Some u
    → (row.leaf ≡ Accept w → Covers u row) × (v : Uses) × (slice_get old i ≡ Some v) × Grows v u

-- blocks, each of this length or a longer one, with all addresses of a set
pub record AreBlocksOf (len : ℕ) (set : List Iv) (blocks : List Prefix) : Type 0 where
  pub sound : All (λ block. IsBlock block × (len ≤ block.len)) blocks
  pub members : (v : ℕ) → has set v ≡ true → some_prefix_has blocks v ≡ true

-- further blocks, each of this length or a longer one, with all addresses of a block
abbrev pub AddsBlocks : ℕ → Prefix → List Prefix → List Prefix → Type 0
AddsBlocks len block old new =
    (more : List Prefix) × (new ≡ old ++ more) × All (λ part. IsBlock part × (len ≤ part.len)) more
    × ((v : ℕ) → prefix_has block v ≡ true → some_prefix_has more v ≡ true)

-- What rows tell of a mark

-- the mark tells what it has to of a row with its rewriting
pub record TellsOf (mark : Mark) (row : Row Outcome) : Type 0 where
  pub twelve : length row.sides ≡ 12
  pub tcp : has (side 1 row) 6 ≡ true → mark.tcp ≡ true
  pub udp : has (side 1 row) 17 ≡ true → mark.udp ≡ true
  pub arrives : (e : ℕ) → has (side 0 row) e ≡ true → e ≢ 0 → mark.arrives ≡ true
  pub sends : has (side 0 row) 0 ≡ true → mark.sends ≡ true
  pub dst : is_network mark.rewrite.dst ≡ true → (v : ℕ) → has (side 2 row) v ≡ true → some_prefix_has mark.dst_blocks v ≡ true
  pub src : is_network mark.rewrite.src ≡ true → (v : ℕ) → has (side 4 row) v ≡ true → some_prefix_has mark.src_blocks v ≡ true

-- the mark tells of all rows with its rewriting
pub record TellsOfAll (rows : List (Row Outcome)) (mark : Mark) : Type 0 where
  pub of_rows : All (λ row. row.leaf ≡ Accept mark.rewrite → TellsOf mark row) rows
  pub dst_blocks : AreBlocks mark.rewrite.dst mark.dst_blocks
  pub src_blocks : AreBlocks mark.rewrite.src mark.src_blocks
  pub dst_sound : All IsBlock mark.dst_blocks
  pub src_sound : All IsBlock mark.src_blocks
  pub dst_fits : FitsEnd mark.rewrite.dst
  pub src_fits : FitsEnd mark.rewrite.src

-- the rewriting is among these
abbrev pub IsAmong : List Rewrite → Rewrite → Type 0
IsAmong rewrites w = (i : ℕ) × (slice_get rewrites i ≡ Some w)

-- a rewriting that writes an end is among these
abbrev pub IsAmongThem : List Rewrite → Rewrite → Type 0
IsAmongThem rewrites w = writes w ≡ true → IsAmong rewrites w

-- what an outcome writes is among these
abbrev pub IsRewriteOf : List Rewrite → Outcome → Type 0
IsRewriteOf rewrites Drop = Unit {0}
IsRewriteOf rewrites (Accept w) = IsAmongThem rewrites w

-- each rewriting of the rows that writes an end is among these
abbrev pub HaveRewrites : List Rewrite → List (Row Outcome) → Type 0
HaveRewrites rewrites rows = All (λ row. IsRewriteOf rewrites row.leaf) rows

-- more behind
abbrev pub Extends : List Rewrite → List Rewrite → Type 0
Extends old new = (more : List Rewrite) × (new ≡ old ++ more)
