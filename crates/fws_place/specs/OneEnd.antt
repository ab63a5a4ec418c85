-- Packets that agree in all but flags and ICMP types and get different ends.
use Rattle.std.specs.Prelude.{◌≡◌, ◌≢◌, ℕ, Bool, true, not, nat_eq, Option, None, MatchOption, Some, List, if◌then◌else◌}
use Rattle.fws_net.specs.declared.outcome.End.{End}
use Rattle.fws_net.specs.declared.outcome.Outcome.{Outcome}
use Rattle.fws_net.specs.declared.outcome.Outcome.TheVariants.{Drop, Accept}
use Rattle.fws_net.specs.declared.outcome.Rewrite.{Rewrite}
use Rattle.fws_net.specs.declared.packet.Packet.{Packet}
use Rattle.fws_net.specs.declared.site.Site.{Site}
use Rattle.fws_tree.specs.declared.tables.Tables.{Tables}
use Rattle.fws_place.specs.declared.breach.Pair.{Pair}
use Rattle.fws_place.specs.declared.one_end.Compared.{Compared}
use Rattle.fws_place.specs.declared.one_end.Compared.TheVariants.{Destinations, HostSources}
use Rattle.fws_place.specs.Clauses.{AgreeButFlagsAndType, Differ, NamesPackets}
use Rattle.fws_net.specs.Points.{tops_of}
use Rattle.fws_tree.specs.Plain.{Plain, value}
use Rattle.fws_box.specs.Sides.{IsWithin}
use Rattle.fws_box.specs.declared.field.Field.TheVariants as fields
use Rattle.fws_box.specs.Fields.{value_of}

-- the end that is compared
abbrev pub end_of : Compared → Rewrite → Option End
end_of Destinations w = w.dst
end_of HostSources w = w.src

-- the packets with this entry are those whose ends are compared
abbrev pub compares : Compared → ℕ → Bool
compares Destinations entry = not (nat_eq entry 0)
compares HostSources entry = nat_eq entry 0

-- the rewriting with the end that is compared alone
abbrev pub end_alone : Compared → Rewrite → Rewrite
end_alone Destinations w = record { src = None; dst = w.dst }
end_alone HostSources w = record { src = w.src; dst = None }

-- and the outcome
abbrev pub alone : Compared → Outcome → Outcome
alone compared Drop = Drop
alone compared (Accept w) = Accept (end_alone compared w)

-- both packets are such, agree in all but flags and ICMP types, and get different ends
pub record GetDifferentEnds (compared : Compared) (tables : Tables) (p q : Packet) : Type 0 where
  pub such : compares compared p.entry ≡ true
  pub agree : AgreeButFlagsAndType p q
  pub differ : Differ tables (λ v w. end_of compared v ≢ end_of compared w) p q

-- two such packets of the site are named, or there are none
abbrev pub AreSoughtEnds : Site → Tables → Compared → Option (Pair × Option Pair) → Type 0
AreSoughtEnds site tables compared found =
    MatchOption found ((first : Pair) (second : Option Pair) → NamesPackets site (GetDifferentEnds compared tables) first second → ⊥)
    (λ named. NamesPackets site (GetDifferentEnds compared tables) named.0 named.1)

-- a tree of the ends that are compared, and drops for packets whose ends aren't
abbrev pub HasEnds : Site → Tables → Compared → Plain Outcome → Type 0
HasEnds site tables compared t = (q : List ℕ) → IsWithin (tops_of site) q
    → (o : Outcome) × (value tables.fresh.1 q ≡ Some o) × (value t q ≡ Some (if compares compared (value_of q fields.Entry) then alone compared o else Drop))
