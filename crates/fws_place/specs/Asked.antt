-- What is asked of the rewritings of packets that are accepted.
use Rattle.std.specs.Prelude.{◌≡◌, Bool, true, ◌||◌, Option, Some, MatchOption}
use Rattle.fws_net.specs.declared.outcome.Rewrite.{Rewrite}
use Rattle.fws_net.specs.declared.packet.Packet.{Packet}
use Rattle.fws_net.specs.declared.connection.Rec.{Rec}
use Rattle.fws_net.specs.declared.site.Site.{Site}
use Rattle.fws_tree.specs.Plain.{Plain, value}
use Rattle.fws_place.specs.declared.asking.Asked.{Asked}
use Rattle.fws_place.specs.declared.asking.Asked.TheVariants.{Source, SourcePort, Destination, Network}
use Rattle.fws_place.specs.declared.breach.Pair.{Pair}
use Rattle.fws_place.specs.Clauses.{NamesPacket}
use Rattle.fws_place.specs.Meaning.{IsPairOf, point_of}
use Rattle.fws_place.specs.Rewritings.{is_network, writes_destination, writes_source, writes_source_port}

-- the rewriting has what is asked
abbrev pub passes : Asked → Rewrite → Bool
passes Source w = writes_source w
passes SourcePort w = writes_source_port w
passes Destination w = writes_destination w
passes Network w = is_network w.src || is_network w.dst

-- the tree is true at the named packet, with some ends
abbrev pub IsNamedPacket : Site → Plain Bool → Pair × Option Pair → Type 0
IsNamedPacket site t named =
    NamesPacket site (λ p. (r : Rec) × IsPairOf site p r × (value t (point_of p r) ≡ Some true)) named.0 named.1

-- a packet that is such is named, or there is none
abbrev pub IsSoughtPacket : Site → (Packet → Type 0) → Option (Pair × Option Pair) → Type 0
IsSoughtPacket site Such found =
    MatchOption found ((first : Pair) (second : Option Pair) → NamesPacket site Such first second → ⊥)
    (λ named. NamesPacket site Such named.0 named.1)
