-- The paths that together ask for the members of a set.
use Rattle.std.specs.Prelude.{◌≡◌, ℕ, ◌+◌, ◌≤◌, ◌<◌, Bool, true, false, ◌&&◌, nat_lt, if◌then◌else◌, List, [], ◌∷◌, length, map, All}
use Rattle.fws_iv.specs.declared.iv.Iv.{Iv}
use Rattle.fws_iv.specs.Ivs.{has}
use Rattle.std.specs.Option.{option_map_or}
use Rattle.fws_net.specs.declared.packet.Packet.{Packet}
use Rattle.fws_net.specs.declared.site.Site.{Site}
use Rattle.fws_pf_put_nat.specs.declared.path.Path.{Path}
use Rattle.fws_pf_put_nat.specs.declared.side.Side.{Side}
use Rattle.fws_pf_put_nat.specs.declared.side.Side.TheVariants.{Entry, Proto}
use Rattle.fws_pf_put_nat.specs.Paths.{path_has, some_path_has, with_part}

-- one number
abbrev pub only : ℕ → Iv
only v = record { lo = v; hi = v }

-- the number by which an interface or a protocol is asked for
abbrev pub number_at : Side → Packet → ℕ
number_at Entry p = p.entry
number_at Proto p = p.proto
number_at _ p = 0

-- interfaces are asked for by their entries, from that of loopback on, and protocols by their numbers
abbrev pub AreNumbers : Site → Bool → Side → ℕ → ℕ → Type 0
AreNumbers site outward Entry from top = (from ≡ 1) × (top ≡ length site.faces + 1) × (outward ≡ false)
AreNumbers site outward Proto from top = (from ≡ 0) × (top ≡ 255)
AreNumbers site outward _ from top = ⊥

-- the path asks for a member of the set, before this number
pub record AsksNumber (side : Side) (set : List Iv) (path : Path) (from n : ℕ) (x : Path) : Type 0 where
  pub number : ℕ
  pub low : from ≤ number
  pub high : number < n
  pub is : x ≡ with_part side (only number) path

-- the paths that ask for the members of the set before a number
pub record AreNumberPaths (side : Side) (set : List Iv) (path : Path) (from n : ℕ) (paths : List Path) : Type 0 where
  pub same : (p : Packet) → from ≤ number_at side p → some_path_has paths p ≡ (path_has path p && (nat_lt (number_at side p) n && has set (number_at side p)))
  pub each : All (AsksNumber side set path from n) paths

-- the paths that ask for the ranges
abbrev pub range_paths : Side → List Iv → Path → List Path
range_paths side parts path = map (λ (part : Iv). with_part side part path) parts

-- the path may be one of packets of the protocol
abbrev pub takes_protocol : Path → ℕ → Bool
takes_protocol path v = option_map_or (λ part. has (part ∷ []) v) path.proto true

-- the paths of packets of the protocol that ask for the ranges
abbrev pub protocol_paths : ℕ → Side → List Iv → Path → List Path
protocol_paths v side parts path = if takes_protocol path v then range_paths side parts (with_part Proto (only v) path) else []
