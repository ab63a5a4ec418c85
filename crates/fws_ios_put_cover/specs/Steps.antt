-- The paths of boxes, one field after another.
use Rattle.std.specs.Prelude.{◌≡◌, ℕ, suc, ◌≤◌, Bool, true, false, ◌&&◌, ◌||◌, Some, List, All}
use Rattle.fws_iv.specs.declared.iv.Iv.{Iv}
use Rattle.fws_iv.specs.Ivs.{has}
use Rattle.fws_net.specs.declared.packet.Packet.{Packet}
use Rattle.fws_ios_put_entries.specs.declared.path.Path.{Path}
use Rattle.fws_ios_put_entries.specs.declared.side.Side.{Side}
use Rattle.fws_ios_put_entries.specs.declared.side.Side.TheVariants.{Proto, Dst, Dport}
use Rattle.fws_ios_put_entries.specs.Narrowing.{HasAddresses}
use Rattle.fws_ios_put_entries.specs.Paths.{asks, hits, number_of, some_path_has, IsWritable}
use Rattle.fws_ios_put_cover.specs.Boxes.{box_asks, part, side_asks}

-- a path of which an entry is made; `established` is asked of TCP alone
pub record IsUsable (established : Bool) (path : Path) : Type 0 where
  pub writable : IsWritable path
  pub tcp : established ≡ true → path.proto ≡ Some 6

-- a path that asks nothing of the fields from one on; behind the protocol `established` is asked of TCP alone
pub record IsOpenPath (established : Bool) (from : ℕ) (path : Path) : Type 0 where
  pub writable : IsWritable path
  pub free : (other : Side) → from ≤ number_of other → asks other path ≡ false
  pub tcp : established ≡ true → 2 ≤ from → path.proto ≡ Some 6

-- where `established` is asked, TCP is the one protocol
abbrev pub IsTcpAlone : Bool → Side → List Iv → Type 0
IsTcpAlone established side set = established ≡ true → side ≡ Proto → (v : ℕ) → has set v ≡ true → v ≡ 6

-- the paths of the packets on the old ones whose field is a member
pub record AreAllNarrowed (side : Side) (set : List Iv) (old new : List Path) : Type 0 where
  pub same : (p : Packet) → HasAddresses p → some_path_has new p ≡ (some_path_has old p && hits side set p)
  pub narrowed : (established : Bool) → All (IsOpenPath established (number_of side)) old → IsTcpAlone established side set
      → All (IsOpenPath established (suc (number_of side))) new

-- the paths of the packets on the old ones whose field is as a box asks
pub record AreStepped (side : Side) (set : List Iv) (old new : List Path) : Type 0 where
  pub same : (p : Packet) → HasAddresses p → some_path_has new p ≡ (some_path_has old p && side_asks side set p)
  pub stepped : (established : Bool) → All (IsOpenPath established (number_of side)) old → IsTcpAlone established side set
      → All (IsOpenPath established (suc (number_of side))) new

-- the paths of the packets whose protocol, destination and its port are as a box asks
pub record AreFirstPaths (sides : List (List Iv)) (paths : List Path) : Type 0 where
  pub same : (p : Packet) → HasAddresses p
      → some_path_has paths p ≡ ((side_asks Proto (part sides 1) p && side_asks Dst (part sides 2) p) && side_asks Dport (part sides 3) p)
  pub opens : (established : Bool) → IsTcpAlone established Proto (part sides 1) → All (IsOpenPath established 4) paths

-- the paths of the packets that a box asks for
pub record AreBoxPaths (sides : List (List Iv)) (paths : List Path) : Type 0 where
  pub same : (p : Packet) → HasAddresses p → some_path_has paths p ≡ box_asks sides p
  pub usable : (established : Bool) → IsTcpAlone established Proto (part sides 1) → All (IsUsable established) paths

-- further paths are kept behind the old ones, unless they are there
pub record AreKept (old new further : List Path) : Type 0 where
  pub same : (p : Packet) → some_path_has new p ≡ (some_path_has old p || some_path_has further p)
  pub usable : (established : Bool) → All (IsUsable established) old → All (IsUsable established) further → All (IsUsable established) new
