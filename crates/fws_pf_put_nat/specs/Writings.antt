-- Translations that write an end.
use Rattle.std.specs.Prelude.{◌≡◌, ◌⊎◌, ℕ, ◌≤◌, ◌<◌, ◌^◌, ◌-◌, Bool, true, false, ◌&&◌, not, nat_le, nat_lt, if◌then◌else◌, Option, Some, None, List, [], ◌∷◌, ◌++◌, map, All, IfSome}
use Rattle.std.specs.Option.{option_map_or}
use Rattle.fws_iv.specs.declared.iv.Iv.{Iv}
use Rattle.fws_iv.specs.Prefixes.{agree}
use Rattle.fws_net.specs.declared.outcome.End.{End}
use Rattle.fws_net.specs.declared.packet.Packet.{Packet}
use Rattle.fws_net.specs.declared.site.Site.{Site}
use Rattle.fws_net.specs.Fates.{has_ports}
use Rattle.fws_pf.specs.declared.config.PfNat.{PfNat}
use Rattle.fws_pf.specs.Drawn.{is_port_protocol}
use Rattle.fws_pf_put_nat.specs.declared.path.Path.{Path}
use Rattle.fws_pf_put_nat.specs.declared.side.Side.{Side}
use Rattle.fws_pf_put_nat.specs.declared.side.Side.TheVariants as sides
use Rattle.fws_pf_put_nat.specs.Narrowing.{only, takes_protocol}
use Rattle.fws_pf_put_nat.specs.Paths.{nat_of, part_has, part_of, part_printed, path_has, protocol_of, some_path_has, with_part}

-- the field that is written over on a pass
abbrev pub written_side : Bool → Side
written_side true = sides.Src
written_side false = sides.Dst

-- the range of addresses that are written over on a path
abbrev pub written_part : Bool → Path → Iv
written_part outward path = option_map_or (λ part. part) (part_of (written_side outward) path) (record { lo = 0; hi = 2 ^ 32 - 1 })

-- a port is written over destinations alone, and where the protocol has ports
abbrev pub port_suits : Bool → Option ℕ → Packet → Bool
port_suits outward None p = true
port_suits outward (Some port) p = not outward && has_ports p.proto

-- tests of the paths are printed
abbrev pub IsPrintedPath : Site → Path → Type 0
IsPrintedPath site path = (side : Side) → part_printed site path side ≡ true

-- an end can be written on the path: a port only where the protocol has ports, and a network only over addresses that agree in its
-- length
abbrev pub EndFits : Bool → End → Path → Type 0
EndFits outward e path =
    ((e.len ≡ 32) × ((port : ℕ) → e.port ≡ Some port → (outward ≡ false) × (is_port_protocol (protocol_of path) ≡ true)))
    ⊎ ((e.len < 32) × ((part : Iv) × (part_of (written_side outward) path ≡ Some part) × (agree e.len part.lo part.hi ≡ true)))

-- the address that is written over
abbrev pub over : Bool → Packet → ℕ
over true p = p.src
over false p = p.dst

-- paths on one of which a packet is just where it is on this path and the port suits it
pub record AreEndPaths (site : Site) (outward : Bool) (e : End) (path : Path) (paths : List Path) : Type 0 where
  pub same : (p : Packet) → over outward p < 2 ^ 32 → some_path_has paths p ≡ (path_has path p && port_suits outward e.port p)
  pub printed : All (IsPrintedPath site) paths
  pub fits : All (EndFits outward e) paths
  pub entry : All (λ x. x.entry ≡ path.entry) paths

-- the translations that write an end on paths
abbrev pub nats_of : List Path → End → ℕ → List PfNat
nats_of paths e tag = map (λ (path : Path). nat_of path (Some e) tag) paths

-- the path of packets of the protocol, if these may be on the path
abbrev pub port_paths_of : ℕ → Path → List Path
port_paths_of v path = if takes_protocol path v then with_part sides.Proto (only v) path ∷ [] else []

-- the paths on which a whole address is written: all where there is no port
abbrev pub host_paths_of : Bool → Path → Option ℕ → List Path
host_paths_of outward path None = path ∷ []
host_paths_of outward path (Some port) = if outward then [] else port_paths_of 6 path ++ port_paths_of 17 path

-- the path asks for a range of the addresses that are written over, which agree in so many bits
pub record AsksBlock (outward : Bool) (path : Path) (len lo end : ℕ) (x : Path) : Type 0 where
  pub part : Iv
  pub is : x ≡ with_part (written_side outward) part path
  pub agrees : agree len part.lo part.hi ≡ true
  pub low : lo ≤ part.lo
  pub order : part.lo ≤ part.hi
  pub high : part.hi < end

-- the paths that ask for the addresses from one to another, by blocks of a length
pub record AreBlockPaths (outward : Bool) (path : Path) (len lo end : ℕ) (paths : List Path) : Type 0 where
  pub each : All (AsksBlock outward path len lo end) paths
  pub same : (p : Packet) → (lo ≤ over outward p → over outward p < end → part_has (written_side outward) path p ≡ true)
      → some_path_has paths p ≡ (path_has path p && (nat_le lo (over outward p) && nat_lt (over outward p) end))

-- the numbers of an end have room in an address and a port
pub record HasRoom (addr : ℕ) (port : Option ℕ) : Type 0 where
  pub address : addr < 2 ^ 32
  pub low : IfSome port (λ n. n ≤ 65535)

abbrev pub EndHasRoom : End → Type 0
EndHasRoom e = HasRoom e.addr e.port
