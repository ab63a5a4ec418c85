-- What access lists can see of packets.
use Rattle.std.specs.Prelude.{◌≡◌, ℕ, true, List}
use Rattle.fws_box.specs.Sides.{IsWithin}
use Rattle.fws_box.specs.declared.field.Field.TheVariants as fields
use Rattle.fws_net.specs.declared.packet.Packet.{Packet}
use Rattle.fws_net.specs.Fates.{has_ports}
use Rattle.fws_box.specs.Fields.{value_of}

-- the point is the packet's in all that lists ask for but flags
pub record IsSeenAt (p : Packet) (x : List ℕ) : Type 0 where
  pub proto : value_of x fields.Proto ≡ p.proto
  pub dst : value_of x fields.Dst ≡ p.dst
  pub dport : value_of x fields.Dport ≡ p.dport
  pub src : value_of x fields.Src ≡ p.src
  pub sport : value_of x fields.Sport ≡ p.sport
  pub icmp : value_of x fields.Icmp ≡ p.icmp

-- two points that lists can't tell apart but by flags
pub record LookSame (x y : List ℕ) : Type 0 where
  pub proto : value_of x fields.Proto ≡ value_of y fields.Proto
  pub dst : value_of x fields.Dst ≡ value_of y fields.Dst
  pub src : value_of x fields.Src ≡ value_of y fields.Src
  pub dport : has_ports (value_of x fields.Proto) ≡ true → value_of x fields.Dport ≡ value_of y fields.Dport
  pub sport : has_ports (value_of x fields.Proto) ≡ true → value_of x fields.Sport ≡ value_of y fields.Sport
  pub icmp : value_of x fields.Proto ≡ 1 → value_of x fields.Icmp ≡ value_of y fields.Icmp

-- lists can tell what a function of points gives, without a test of flags
abbrev pub IsListed : {X : Type 0} → List ℕ → (List ℕ → X) → Type 0
IsListed tops f = (x y : List ℕ) → IsWithin tops x → IsWithin tops y → LookSame x y → f x ≡ f y
