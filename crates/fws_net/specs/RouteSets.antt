-- How the addresses of a block are divided among networks: the networks within it, and its halves.
use Rattle.std.specs.Prelude.{ℕ, ◌+◌, ◌-◌, ◌^◌, ◌≤◌, Bool, ◌&&◌, not, nat_eq, nat_lt, if◌then◌else◌, List, All}
use Rattle.std.specs.List.{filter, find}
use Rattle.std.specs.Option.{option_map_or}
use Rattle.fws_iv.specs.Prefixes.{agree}
use Rattle.fws_num.specs.declared.prefix.Prefix.{Prefix}
use Rattle.fws_net.specs.declared.site.RouteLine.{RouteLine}

-- the network begins with the bits of the block, and is longer
abbrev pub is_within : Prefix → RouteLine → Bool
is_within block line = nat_lt block.len line.net.len && agree block.len block.addr line.net.addr

-- the network is the block
abbrev pub is_block : Prefix → RouteLine → Bool
is_block block line = nat_eq line.net.len block.len && agree block.len block.addr line.net.addr

-- the networks within the block that are longer
abbrev pub nets_within : Prefix → List RouteLine → List RouteLine
nets_within block lines = filter (is_within block) lines

-- the entry to which the first network that is the block leads, else another one
abbrev pub block_entry : Prefix → List RouteLine → ℕ → ℕ
block_entry block lines other = option_map_or (λ line. line.face) (find (is_block block) lines) other

-- the network leads to the entry if that is asked, and to another one if not
abbrev pub leads_alike : ℕ → Bool → RouteLine → Bool
leads_alike entry asked line = if asked then nat_eq line.face entry else not (nat_eq line.face entry)

-- the addresses of the block whose next bit is 0
abbrev pub first_half : Prefix → Prefix
first_half block = record { addr = block.addr; len = block.len + 1 }

-- those whose next bit is 1
abbrev pub second_half : Prefix → Prefix
second_half block = record { addr = block.addr + 2 ^ (31 - block.len); len = block.len + 1 }

-- each network has at least this length, and at most 32
abbrev pub AreFrom : ℕ → List RouteLine → Type 0
AreFrom len lines = All (λ line. (len ≤ line.net.len) × (line.net.len ≤ 32)) lines
