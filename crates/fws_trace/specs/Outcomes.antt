-- The outcomes of packets by tables.
use Rattle.std.specs.Prelude.{◌≡◌, ℕ, Some, unwrap_or, List, [], ◌∷◌, slice_index}
use Rattle.fws_box.specs.Sides.{IsWithin}
use Rattle.fws_net.specs.declared.connection.Kind.{Kind}
use Rattle.fws_net.specs.declared.connection.Kind.TheVariants as kinds
use Rattle.fws_net.specs.declared.connection.Rec.{Rec}
use Rattle.fws_net.specs.declared.outcome.Outcome.{Outcome}
use Rattle.fws_net.specs.declared.outcome.Outcome.TheVariants.{Drop}
use Rattle.fws_net.specs.declared.packet.Packet.{Packet}
use Rattle.fws_net.specs.declared.packet.State.{State}
use Rattle.fws_net.specs.declared.packet.State.TheVariants.{Fresh, Est}
use Rattle.fws_net.specs.declared.site.Site.{Site}
use Rattle.fws_net.specs.Points.{tops_of, packet_of}
use Rattle.fws_tree.specs.declared.tables.Tables.{Tables}
use Rattle.fws_tree.specs.Plain.{Plain, value}

-- the ends with which the established packet of a point leaves
abbrev pub rec_of : List ℕ → Rec
rec_of p = record { rdst = slice_index p 8; rdport = slice_index p 9; rsrc = slice_index p 10; rsport = slice_index p 11 }

-- the class of the packet of a point
abbrev pub kind_of : State → List ℕ → Kind
kind_of Fresh p = kinds.New
kind_of Est p = kinds.Est (rec_of p)

-- the tree has at each point of the site what a walk gives the packet
abbrev pub IsWalked : Site → State → (Packet → Kind → Outcome) → Plain Outcome → Type 0
IsWalked site state walk t = (p : List ℕ) → IsWithin (tops_of site) p → value t p ≡ Some (walk (packet_of p) (kind_of state p))

-- what stands in place of the ends of a new packet; its table doesn't look at them
abbrev pub no_ends : Rec
no_ends = record { rdst = 0; rdport = 0; rsrc = 0; rsport = 0 }

-- a packet, with the ends with which it leaves, as a point
abbrev pub point_with : Packet → Rec → List ℕ
point_with p r = p.entry ∷ p.proto ∷ p.dst ∷ p.dport ∷ p.src ∷ p.sport ∷ p.flags ∷ p.icmp ∷ r.rdst ∷ r.rdport ∷ r.rsrc ∷ r.rsport ∷ []

-- a packet of a class as a point
abbrev pub point_of : Packet → Kind → List ℕ
point_of p kinds.New = point_with p no_ends
point_of p (kinds.Est r) = point_with p r

-- the table of a class
abbrev pub table_of : Tables → Kind → Plain Outcome
table_of t kinds.New = t.fresh.1
table_of t (kinds.Est r) = t.est.1

-- the outcome that the table of its class has for a packet; it has one for each packet of the site
abbrev pub outcome_by : Tables → Packet → Kind → Outcome
outcome_by t p k = unwrap_or (value (table_of t k) (point_of p k)) Drop
