-- Packets that differ in nothing that a condition can see.
use Rattle.std.specs.Prelude.{◌≡◌, true, nat_eq, List}
use Rattle.fws_net.specs.declared.packet.Packet.{Packet}
use Rattle.fws_net.specs.declared.condition.Lit.{Lit}
use Rattle.fws_net.specs.declared.view.View.{View}
use Rattle.fws_net.specs.Conditions.{holds}
use Rattle.fws_net.specs.Fates.{has_ports}

-- they agree, but for ports, flags and ICMP types at protocols that have none
pub record Alike (p q : Packet) : Type 0 where
  pub entry : p.entry ≡ q.entry
  pub proto : p.proto ≡ q.proto
  pub dst : p.dst ≡ q.dst
  pub src : p.src ≡ q.src
  pub dport : has_ports p.proto ≡ true → p.dport ≡ q.dport
  pub sport : has_ports p.proto ≡ true → p.sport ≡ q.sport
  pub flags : nat_eq p.proto 6 ≡ true → p.flags ≡ q.flags
  pub icmp : nat_eq p.proto 1 ≡ true → p.icmp ≡ q.icmp

-- what a rule sees of two such packets, with all else the same
pub record AlikeViews (v w : View) : Type 0 where
  pub packet : Alike v.packet w.packet
  pub recv : v.recv ≡ w.recv
  pub xmit : v.xmit ≡ w.xmit
  pub outward : v.outward ≡ w.outward
  pub est : v.est ≡ w.est
  pub tags : v.tags ≡ w.tags

-- a condition holds of both or of neither
abbrev pub ConditionsHoldAlike : Type 0
ConditionsHoldAlike = (v w : View) → AlikeViews v w → (cond : List Lit) → holds cond v ≡ holds cond w
