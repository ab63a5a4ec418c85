-- What tables make of the packets of a site.
use Rattle.std.specs.Prelude.{ℕ, ◌-◌, ◌^◌, List, [], ◌∷◌, unwrap_or}
use Rattle.fws_box.specs.Sides.{IsWithin}
use Rattle.fws_box.specs.declared.field.Field.TheVariants as fields
use Rattle.fws_net.specs.declared.connection.Rec.{Rec}
use Rattle.fws_net.specs.declared.outcome.Outcome.{Outcome}
use Rattle.fws_net.specs.declared.outcome.Outcome.TheVariants.{Drop}
use Rattle.fws_net.specs.declared.packet.Packet.{Packet}
use Rattle.fws_net.specs.declared.site.Site.{Site}
use Rattle.fws_net.specs.Points.{tops_of}
use Rattle.fws_tree.specs.declared.tables.Tables.{Tables}
use Rattle.fws_tree.specs.Plain.{value}
use Rattle.fws_box.specs.Fields.{value_of}

-- the point of a packet, and of the ends with which a connection sends it
abbrev pub point_of : Packet → Rec → List ℕ
point_of p r = p.entry ∷ p.proto ∷ p.dst ∷ p.dport ∷ p.src ∷ p.sport ∷ p.flags ∷ p.icmp
    ∷ r.rdst ∷ r.rdport ∷ r.rsrc ∷ r.rsport ∷ []

-- the ends of a point
abbrev pub rec_of : List ℕ → Rec
rec_of p = record {
  rdst = value_of p fields.SentDst;
  rdport = value_of p fields.SentDport;
  rsrc = value_of p fields.SentSrc;
  rsport = value_of p fields.SentSport;
}

-- the greatest values that packets and ends have room for
abbrev pub widest : List ℕ
widest = 255 ∷ 255 ∷ (2 ^ 32 - 1) ∷ 65535 ∷ (2 ^ 32 - 1) ∷ 65535 ∷ 255 ∷ 255
    ∷ (2 ^ 32 - 1) ∷ 65535 ∷ (2 ^ 32 - 1) ∷ 65535 ∷ []

-- ends that stand where none are asked for
abbrev pub no_ends : Rec
no_ends = record { rdst = 0; rdport = 0; rsrc = 0; rsport = 0 }

-- a packet of the site, and ends with which a connection may send it
abbrev pub IsPairOf : Site → Packet → Rec → Type 0
IsPairOf site p r = IsWithin (tops_of site) (point_of p r)

-- a packet of the site
abbrev pub IsPacketOf : Site → Packet → Type 0
IsPacketOf site p = IsPairOf site p no_ends

-- what becomes of a new packet; what a table doesn't have is dropped
abbrev pub new_of : Tables → Packet → Outcome
new_of tables p = unwrap_or (value tables.fresh.1 (point_of p no_ends)) Drop

-- what becomes of an established packet that a connection sends with these ends
abbrev pub est_of : Tables → Packet → Rec → Outcome
est_of tables p r = unwrap_or (value tables.est.1 (point_of p r)) Drop
