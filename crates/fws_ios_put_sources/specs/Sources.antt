-- Translation lists that give the packets which cross from the inside to the outside the sources of tables.
use Rattle.std.specs.Prelude.{◌≡◌, ℕ, ◌-◌, ◌^◌, Bool, true, false, nat_lt, List, ◌++◌, All, codes, length}
use Rattle.std.specs.List.{list_all}
use Rattle.fws_net.specs.declared.connection.Kind.TheVariants.{New}
use Rattle.fws_net.specs.declared.outcome.Outcome.TheVariants.{Accept}
use Rattle.fws_net.specs.declared.outcome.Rewrite.{Rewrite}
use Rattle.fws_net.specs.declared.packet.Packet.{Packet}
use Rattle.fws_net.specs.declared.site.Side.{Side}
use Rattle.fws_net.specs.declared.site.Site.{Site}
use Rattle.fws_net.specs.declared.transit.Transit.{Transit}
use Rattle.fws_net.specs.Transits.{nothing_written}
use Rattle.fws_ios.specs.declared.config.IosConfig.{IosConfig}
use Rattle.fws_ios.specs.Soundness.{are_apart}
use Rattle.fws_ios.specs.Walk.{list_named, source_end}
use Rattle.fws_ios_print.specs.Printable.{is_printed_list, is_printed_nat}
use Rattle.fws_ios_put_sources.specs.declared.translations.Sources.{Sources}
use Rattle.fws_place.specs.Meaning.{IsPacketOf, new_of}
use Rattle.fws_place.specs.Rewritings.{goes_outside, is_inside, is_outside}
use Rattle.fws_tree.specs.declared.tables.Tables.{Tables}

-- an interface stands on the outside, or on the inside
abbrev pub is_on : Bool → Side → Bool
is_on true side = is_outside side
is_on false side = is_inside side

-- the packet comes from the inside and leaves to the outside, by the destination with which it comes
abbrev pub crosses : Site → Packet → Bool
crosses site p = goes_outside site p nothing_written

-- what the names of translation lists begin with
abbrev pub mark : List ℕ
mark = codes "NAT-"

-- a name of a translation list
abbrev pub IsMarked : List ℕ → Type 0
IsMarked name = (rest : List ℕ) × (name ≡ mark ++ rest)

-- in each configuration with these translations, whose marked names are those of these lists, new packets that cross and are
-- accepted get the sources of the tables
abbrev pub TranslateSources : Site → Tables → Sources → Type 0
TranslateSources site tables s =
    (p : Packet) (w : Rewrite) → IsPacketOf site p → new_of tables p ≡ Accept w → crosses site p ≡ true
    → (c : IosConfig) → c.nats ≡ s.nats → ((name : List ℕ) → IsMarked name → list_named name c.lists ≡ list_named name s.lists)
    → (t : Transit) → t.packet ≡ p → source_end c site New t ≡ w.src

-- lists and translations that are printed, have marked names that differ, and translate the sources of tables
pub record IsSources (site : Site) (tables : Tables) (s : Sources) : Type 0 where
  pub printed_lists : list_all is_printed_list s.lists ≡ true
  pub printed_nats : list_all is_printed_nat s.nats ≡ true
  pub few : nat_lt (length s.nats) (2 ^ 64 - 1) ≡ true
  pub apart : are_apart s.lists ≡ true
  pub marked : All (λ l. IsMarked l.name) s.lists
  pub translated : TranslateSources site tables s
