-- What decides which pairs ipfw can drop ahead of the look-up of connections.
use Rattle.std.specs.Prelude.{◌≡◌, ◌≢◌, ◌⊎◌, Bool, true, ◌&&◌, not, Option, List, [], ◌∷◌, MatchOption, if◌then◌else◌, ℕ}
use Rattle.std.specs.List.{swap}
use Rattle.fws_net.specs.declared.connection.Rec.{Rec}
use Rattle.fws_net.specs.declared.outcome.Outcome.TheVariants.{Drop}
use Rattle.fws_net.specs.declared.packet.Packet.{Packet}
use Rattle.fws_net.specs.declared.site.Site.{Site}
use Rattle.fws_net.specs.Routes.{is_local}
use Rattle.fws_tree.specs.declared.row.Row.{Row}
use Rattle.fws_tree.specs.declared.tables.Tables.{Tables}
use Rattle.fws_place.specs.declared.breach.Pair.{Pair}
use Rattle.fws_place.specs.declared.clause.Clause.TheVariants.{DropsAheadOfLookup}
use Rattle.fws_place.specs.Clauses.{Breaks, BreaksAheadOfLookup}
use Rattle.fws_place.specs.Meaning.{est_of, new_of}
use Rattle.fws_place.specs.Pairs.{is_host, with_destination}
use Rattle.fws_place.specs.Seen.{IsAcceptedSomewhere, IsAcceptedAlike}
use Rattle.fws_box.specs.Sides.{IsWithin}
use Rattle.fws_tree.specs.Plain.{Plain, value}

-- Where pairs go

-- the pair arrives and is delivered
abbrev pub stays : Site → Packet → Rec → Bool
stays site p r = not (is_host p) && is_local site r.rdst

-- the pair arrives for another host
abbrev pub passes : Site → Packet → Rec → Bool
passes site p r = not (is_host p) && not (is_local site r.rdst)

-- New packets

-- the packet is accepted when it is new
abbrev pub IsAcceptedNew : Tables → Packet → Type 0
IsAcceptedNew tables p = new_of tables p ≢ Drop

-- the pair is one of the host's, and the new packet that looks like it is accepted
abbrev pub IsAcceptedNewAlike : Tables → Packet → Rec → Type 0
IsAcceptedNewAlike tables p r = (is_host p ≡ true) × IsAcceptedNew tables (with_destination r p)

-- Dropped pairs

-- the pair is dropped, though its packet is accepted in some connection or when it is new
abbrev pub IsDroppedOfPacket : Site → Tables → Packet → Rec → Type 0
IsDroppedOfPacket site tables p r = (est_of tables p r ≡ Drop) × (IsAcceptedSomewhere site tables p ⊎ IsAcceptedNew tables p)

-- the pair is dropped, though one that looks like it is accepted, or the new packet that looks like it
abbrev pub IsDroppedOfAlike : Site → Tables → Packet → Rec → Type 0
IsDroppedOfAlike site tables p r = (est_of tables p r ≡ Drop) × (IsAcceptedAlike site tables p r ⊎ IsAcceptedNewAlike tables p r)

-- what was looked for among some of the pairs: one that breaks the clause, or that there is none
abbrev pub IsSoughtAmong : Site → Tables → (Packet → Rec → Bool) → Option (Pair × Option Pair) → Type 0
IsSoughtAmong site tables among found = MatchOption found
    ((p : Packet) (r : Rec) → among p r ≡ true → BreaksAheadOfLookup site tables p r → ⊥)
    (λ named. Breaks site tables DropsAheadOfLookup named.0 named.1)

-- Destinations exchanged

-- of a list with an item for each field: the packet's destination and its port in the place of those of the connection,
-- and these in theirs
abbrev pub exchanged : {X : Type 0} → List X → List X
exchanged xs = swap (swap xs 2 8) 3 9

-- a row with the sides of both destinations in each other's place
abbrev pub exchanged_row : Row Bool → Row Bool
exchanged_row row = record { sides = exchanged row.sides; leaf = row.leaf }

-- the rows that are true, with destinations exchanged
abbrev pub exchanged_rows : List (Row Bool) → List (Row Bool)
exchanged_rows [] = []
exchanged_rows (row ∷ rows) = if row.leaf then exchanged_row row ∷ exchanged_rows rows else exchanged_rows rows

-- the new tree has this one's values where both destinations are in each other's place
abbrev pub IsExchanged : List ℕ → Plain Bool → Plain Bool → Type 0
IsExchanged tops t new = (q : List ℕ) → IsWithin tops q → IsWithin tops (exchanged q) → value new q ≡ value t (exchanged q)
