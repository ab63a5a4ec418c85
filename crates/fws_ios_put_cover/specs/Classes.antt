-- Packets that entries ask for in one way: by their protocols.
use Rattle.std.specs.Prelude.{◌≡◌, ℕ, ◌≤◌, ◌<◌, Bool, true, false, ◌&&◌, ◌||◌, not, nat_eq, nat_le, nat_lt, List, [], ◌∷◌, length, slice_index}
use Rattle.fws_iv.specs.declared.iv.Iv.{Iv}
use Rattle.fws_iv.specs.Ivs.{has}
use Rattle.fws_net.specs.Fates.{has_ports}
use Rattle.fws_ios_put_cover.specs.declared.class.Class.{Class}
use Rattle.fws_ios_put_cover.specs.declared.class.Class.TheVariants.{Tcp, Ports, Types, Others}
use Rattle.fws_ios_put_cover.specs.Boxes.{part}

-- the protocols of the packets
abbrev pub takes : Class → ℕ → Bool
takes Tcp v = nat_eq v 6
takes Ports v = has_ports v
takes Types v = nat_eq v 1
takes Others v = (nat_le v 255 && not (has_ports v)) && not (nat_eq v 1)

-- `established` may be asked for
abbrev pub is_tcp : Class → Bool
is_tcp Tcp = true
is_tcp Ports = false
is_tcp Types = false
is_tcp Others = false

-- ports may be asked for
abbrev pub asks_ports : Class → Bool
asks_ports Tcp = true
asks_ports Ports = true
asks_ports Types = false
asks_ports Others = false

-- types may be asked for
abbrev pub asks_types : Class → Bool
asks_types Tcp = false
asks_types Ports = false
asks_types Types = true
asks_types Others = false

-- the set of the field is kept
abbrev pub keeps : Class → ℕ → Bool
keeps class f = (nat_eq f 2 || nat_eq f 4) || ((asks_ports class && (nat_eq f 3 || nat_eq f 5)) || (asks_types class && nat_eq f 7))

-- all values of a field
abbrev pub whole : List ℕ → ℕ → List Iv
whole tops f = record { lo = 0; hi = slice_index tops f } ∷ []

-- the sets of a box as far as they are asked of the packets; those of the fields from one on aren't there yet
pub record IsPartBefore (class : Class) (tops : List ℕ) (sides : List (List Iv)) (protos : List Iv) (end : ℕ) (new : List (List Iv)) : Type 0 where
  pub twelve : length new ≡ 12
  pub protos_are : part new 1 ≡ protos
  pub kept : (f : ℕ) → 2 ≤ f → f < end → keeps class f ≡ true → part new f ≡ part sides f
  pub whole_are : (f : ℕ) → f < 12 → nat_eq f 1 ≡ false → (nat_lt f end && keeps class f) ≡ false → part new f ≡ whole tops f

-- the sets of a box as far as they are asked of the packets
pub record IsPart (class : Class) (tops : List ℕ) (sides new : List (List Iv)) : Type 0 where
  pub protos : List Iv
  pub members : (v : ℕ) → has protos v ≡ (has (part sides 1) v && takes class v)
  pub before : IsPartBefore class tops sides protos 8 new
