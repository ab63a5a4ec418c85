-- What boxes of points ask of packets.
use Rattle.std.specs.Prelude.{◌≡◌, ℕ, ◌≤◌, ◌<◌, Bool, true, false, ◌&&◌, ◌||◌, nat_eq, nat_le, List, [], ◌∷◌, length, slice_index, slice_index_or}
use Rattle.fws_iv.specs.declared.iv.Iv.{Iv}
use Rattle.fws_iv.specs.Ivs.{has}
use Rattle.fws_net.specs.declared.packet.Packet.{Packet}
use Rattle.fws_net.specs.Fates.{has_ports}
use Rattle.fws_ios_put_entries.specs.declared.side.Side.{Side}
use Rattle.fws_ios_put_entries.specs.declared.side.Side.TheVariants.{Proto, Src, Sport, Dst, Dport, Icmp}
use Rattle.fws_ios_put_entries.specs.Paths.{hits, number_of, top_of}

-- the set of a field
abbrev pub part : List (List Iv) → ℕ → List Iv
part sides f = slice_index_or sides f []

-- entries can ask for the field
abbrev pub is_seen : ℕ → Bool
is_seen f = (nat_le 1 f && nat_le f 5) || nat_eq f 7

-- the set has all values of the field
abbrev pub is_whole : ℕ → List Iv → Bool
is_whole top (iv ∷ []) = nat_eq iv.lo 0 && nat_eq iv.hi top
is_whole top _ = false

-- the packet's field is as the box asks; nothing is asked where the set has all values
abbrev pub side_asks : Side → List Iv → Packet → Bool
side_asks side set p = is_whole (top_of side) set || hits side set p

-- all its fields are
abbrev pub box_asks : List (List Iv) → Packet → Bool
box_asks sides p =
    side_asks Proto (part sides 1) p && side_asks Dst (part sides 2) p && side_asks Dport (part sides 3) p && side_asks Src (part sides 4) p
    && side_asks Sport (part sides 5) p && side_asks Icmp (part sides 7) p

-- a box that entries can ask for: ports stand under TCP and UDP, types under ICMP, and nothing is asked of further fields
pub record IsAsked (established : Bool) (tops : List ℕ) (sides : List (List Iv)) : Type 0 where
  pub twelve : length sides ≡ 12
  pub unseen : (f : ℕ) → f < 12 → is_seen f ≡ false → (v : ℕ) → v ≤ slice_index tops f → has (part sides f) v ≡ true
  pub low : (side : Side) (v : ℕ) → has (part sides (number_of side)) v ≡ true → v ≤ top_of side
  pub dport : is_whole 65535 (part sides 3) ≡ false → (v : ℕ) → has (part sides 1) v ≡ true → has_ports v ≡ true
  pub sport : is_whole 65535 (part sides 5) ≡ false → (v : ℕ) → has (part sides 1) v ≡ true → has_ports v ≡ true
  pub icmp : is_whole 255 (part sides 7) ≡ false → (v : ℕ) → has (part sides 1) v ≡ true → v ≡ 1
  pub tcp : established ≡ true → (v : ℕ) → has (part sides 1) v ≡ true → v ≡ 6
