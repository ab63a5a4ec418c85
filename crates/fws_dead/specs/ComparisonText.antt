-- The line of a comparison.
use Rattle.std.specs.Prelude.{List, [], ◌∷◌, ◌++◌, ℕ, Option, codes}
use Rattle.std.specs.Fmt.{decimal}
use Rattle.std.specs.List.{join_with_byte}
use Rattle.std.specs.Option.{option_map_or}
use Rattle.fws_num.specs.Numbers.{dotted}
use Rattle.fws_net.specs.declared.connection.Rec.{Rec}
use Rattle.fws_net.specs.declared.outcome.Fate.{Fate}
use Rattle.fws_net.specs.declared.packet.Packet.{Packet}
use Rattle.fws_net.specs.declared.site.Site.{Site}
use Rattle.fws_table.specs.TableText.{entry_name}
use Rattle.fws_trace.specs.TraceText.{fate_text}
use Rattle.fws_dead.specs.declared.compare.Compare.{Compare}
use Rattle.fws_dead.specs.declared.compare.Compare.TheVariants.{Same, Differ}
use Rattle.fws_dead.specs.declared.compare.Pair.{Pair}

-- the words of a packet, as a trace reads them
abbrev pub packet_words : Site → Packet → List (List ℕ)
packet_words site p =
    entry_name site p.entry ∷ decimal p.proto ∷ dotted p.dst ∷ decimal p.dport ∷ dotted p.src ∷ decimal p.sport ∷ decimal p.flags
    ∷ decimal p.icmp ∷ []

-- the ends with which a connection sends it
abbrev pub ends_words : Rec → List (List ℕ)
ends_words r = dotted r.rdst ∷ decimal r.rdport ∷ dotted r.rsrc ∷ decimal r.rsport ∷ []

-- the words of both, or of a packet alone
abbrev pub pair_words : Site → Packet → Option Rec → List (List ℕ)
pair_words site p ends = packet_words site p ++ option_map_or ends_words ends []

-- a fate, behind a colon
abbrev pub colon_text : ℕ → Fate → List ℕ
colon_text proto fate = codes " : " ++ fate_text proto fate

-- a packet has another fate under the second policy than under the first
abbrev pub differing_text : Site → Pair → Fate → Fate → List ℕ
differing_text site at first second =
    codes "differ " ++ join_with_byte 32 (pair_words site at.packet at.rec) ++ colon_text at.packet.proto first
    ++ colon_text at.packet.proto second ++ 10 ∷ []

-- what is said of two policies
abbrev pub comparison_text : Site → Compare → List ℕ
comparison_text site Same = codes "same" ++ 10 ∷ []
comparison_text site (Differ at first second) = differing_text site at first second
