-- New packets that cross from the inside to the outside.
use Rattle.std.specs.Prelude.{◌≡◌, ℕ, ◌^◌, ◌&&◌, Bool, true, not, nat_lt, Some, List, if◌then◌else◌}
use Rattle.fws_box.specs.Sides.{IsWithin}
use Rattle.fws_box.specs.declared.field.Field.TheVariants as fields
use Rattle.fws_ios_put_entries.specs.Seen.{LookSame}
use Rattle.fws_ios_put_sources.specs.Sources.{crosses, is_on}
use Rattle.fws_net.specs.declared.outcome.Outcome.{Outcome}
use Rattle.fws_net.specs.declared.outcome.Outcome.TheVariants.{Drop, Accept}
use Rattle.fws_net.specs.declared.outcome.Rewrite.{Rewrite}
use Rattle.fws_net.specs.declared.site.Site.{Site}
use Rattle.fws_net.specs.Points.{packet_of, tops_of}
use Rattle.fws_net.specs.Routes.{is_local, route_of}
use Rattle.fws_place.specs.Rewritings.{side_of}
use Rattle.fws_tree.specs.declared.tables.Tables.{Tables}
use Rattle.fws_tree.specs.Changed.{Agree}
use Rattle.fws_tree.specs.Plain.{Plain, value}
use Rattle.fws_box.specs.Fields.{value_of}

-- packets for the address are sent to an interface on the outside
abbrev pub is_outside_route : Site → ℕ → Bool
is_outside_route site a = is_on true (side_of site (route_of site a)) && nat_lt a (2 ^ 32)

-- packets that arrive for the address are forwarded to an interface on the outside
abbrev pub is_sent_outside : Site → ℕ → Bool
is_sent_outside site a = site.forwarding && (is_outside_route site a && not (is_local site a))

-- the outcomes of new packets, where others than those that cross are dropped
abbrev pub IsCrossing : Site → Tables → Plain Outcome → Type 0
IsCrossing site tables t =
    (x : List ℕ) → IsWithin (tops_of site) x → value t x ≡ (if crosses site (packet_of x) then value tables.fresh.1 x else Some Drop)

-- the outcomes that lists can give: they are told by the entry, the flags and what lists see, and the source by what lists see alone.
pub record AreTold (tops : List ℕ) (t : Plain Outcome) : Type 0 where
  pub steady : (x y : List ℕ) → IsWithin tops x → IsWithin tops y → value_of x fields.Entry ≡ value_of y fields.Entry
      → value_of x fields.Flags ≡ value_of y fields.Flags → LookSame x y
      → value t x ≡ value t y
  pub agree : (x y z : List ℕ) (v w : Rewrite) → IsWithin tops y → IsWithin tops z → Agree 65 x y → Agree 65 x z → value t y ≡ Some (Accept v)
      → value t z ≡ Some (Accept w) → v.src ≡ w.src
