-- The paths that together ask for the members of a set.
use Rattle.std.specs.Prelude.{◌≡◌, ℕ, ◌^◌, ◌<◌, Bool, true, false, ◌&&◌, nat_eq, nat_lt, Some, List, [], map, All, if◌then◌else◌}
use Rattle.std.specs.List.{list_any}
use Rattle.std.specs.Option.{option_map_or}
use Rattle.fws_num.specs.declared.prefix.Prefix.{Prefix}
use Rattle.fws_iv.specs.declared.iv.Iv.{Iv}
use Rattle.fws_iv.specs.Ivs.{has}
use Rattle.fws_iv.specs.Prefixes.{some_prefix_has, IsBlock}
use Rattle.fws_net.specs.declared.packet.Packet.{Packet}
use Rattle.fws_ios_put_entries.specs.declared.path.Path.{Path}
use Rattle.fws_ios_put_entries.specs.declared.side.Side.{Side}
use Rattle.fws_ios_put_entries.specs.declared.side.Side.TheVariants.{Proto, Src, Sport, Dst, Dport, Icmp}
use Rattle.fws_ios_put_entries.specs.Paths.{asks, hits, number_of, path_has, some_path_has, IsWritable}

-- the packet's addresses have 32 bits
pub record HasAddresses (p : Packet) : Type 0 where
  pub src : p.src < 2 ^ 32
  pub dst : p.dst < 2 ^ 32

-- nothing is asked of what only some protocols have
pub record AsksNoDetail (path : Path) : Type 0 where
  pub sport : asks Sport path ≡ false
  pub dport : asks Dport path ≡ false
  pub icmp : asks Icmp path ≡ false

-- the path asks for a protocol, which is a member
pub record AsksMember (set : List Iv) (path : Path) : Type 0 where
  pub member : ℕ
  pub asked : path.proto ≡ Some member
  pub has_it : has set member ≡ true

-- the paths of the packets on a path whose field is a member of the set
pub record AreNarrowed (path : Path) (side : Side) (set : List Iv) (paths : List Path) : Type 0 where
  pub writable : All IsWritable paths
  pub same : (p : Packet) → HasAddresses p → some_path_has paths p ≡ (path_has path p && hits side set p)
  -- a further field isn't asked, if the path doesn't ask it and it isn't the protocol
  pub free : (other : Side) → asks other path ≡ false → nat_eq (number_of other) (number_of side) ≡ false → nat_eq (number_of other) 1 ≡ false
      → All (λ x. asks other x ≡ false) paths
  -- a protocol that the path asks for is asked
  pub kept : (n : ℕ) → path.proto ≡ Some n → All (λ x. x.proto ≡ Some n) paths
  -- where protocols are narrowed each path asks for one
  pub told : side ≡ Proto → All (AsksMember set) paths

-- Making paths

-- the path under this protocol
abbrev pub under : ℕ → Path → Path
under n path = record path { proto = Some n }

-- the path asks for this number of a protocol or a type
abbrev pub with_number : Side → ℕ → Path → Path
with_number Proto n path = record path { proto = Some n }
with_number Dst n path = path
with_number Dport n path = path
with_number Src n path = path
with_number Sport n path = path
with_number Icmp n path = record path { icmp = Some n }

-- the path asks for these addresses; all addresses aren't asked for
abbrev pub with_net : Side → Prefix → Path → Path
with_net Proto net path = path
with_net Dst net path = if nat_eq net.len 0 then path else record path { dst = Some net }
with_net Dport net path = path
with_net Src net path = if nat_eq net.len 0 then path else record path { src = Some net }
with_net Sport net path = path
with_net Icmp net path = path

-- the path asks for these ports
abbrev pub with_range : Side → Iv → Path → Path
with_range Proto range path = path
with_range Dst range path = path
with_range Dport range path = record path { dport = Some range }
with_range Src range path = path
with_range Sport range path = record path { sport = Some range }
with_range Icmp range path = path

-- the path may be one of packets of the protocol
abbrev pub takes_protocol : Path → ℕ → Bool
takes_protocol path v = option_map_or (λ n. nat_eq n v) path.proto true

-- the paths of packets of the protocol that ask for the ranges
abbrev pub protocol_paths : ℕ → Side → List Iv → Path → List Path
protocol_paths v side ranges path = if takes_protocol path v then map (λ (range : Iv). with_range side range (under v path)) ranges else []

-- the members of a set before a number
pub record AreMembers (set : List Iv) (end : ℕ) (numbers : List ℕ) : Type 0 where
  pub same : (w : ℕ) → list_any (λ n. nat_eq n w) numbers ≡ (nat_lt w end && has set w)
  pub each : All (λ n. has set n ≡ true) numbers

-- the paths that ask for the members of a set
pub record AreNumberPaths (side : Side) (set : List Iv) (path : Path) (paths : List Path) : Type 0 where
  pub numbers : List ℕ
  pub members : AreMembers set 256 numbers
  pub are : paths ≡ map (λ n. with_number side n path) numbers

-- the paths of packets of ICMP that ask for the types of a set
pub record AreTypePaths (set : List Iv) (path : Path) (paths : List Path) : Type 0 where
  pub without : takes_protocol path 1 ≡ false → paths ≡ []
  pub typed : takes_protocol path 1 ≡ true → AreNumberPaths Icmp set (under 1 path) paths

-- the paths that ask for the addresses of a set
pub record AreNetPaths (side : Side) (set : List Iv) (path : Path) (paths : List Path) : Type 0 where
  pub nets : List Prefix
  pub sound : All IsBlock nets
  pub same : (v : ℕ) → some_prefix_has nets v ≡ has set v
  pub are : paths ≡ map (λ net. with_net side net path) nets
