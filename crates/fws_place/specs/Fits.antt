-- When a system can hold tables, and what shows that it can't.
use Rattle.std.specs.Prelude.{◌≡◌, ℕ, Option, List, [], ◌∷◌, ◌++◌, All}
use Rattle.fws_net.specs.declared.packet.Lang.{Lang}
use Rattle.fws_net.specs.declared.packet.Lang.TheVariants.{Iptables, Ipfw, Pf, Ios}
use Rattle.fws_net.specs.declared.site.Site.{Site}
use Rattle.fws_tree.specs.declared.tables.Tables.{Tables}
use Rattle.fws_place.specs.declared.breach.Breach.{Breach}
use Rattle.fws_place.specs.declared.breach.Pair.{Pair}
use Rattle.fws_place.specs.declared.clause.Clause.{Clause}
use Rattle.fws_place.specs.declared.clause.Clause.TheVariants.{FewOutcomes, KeepsSourcePorts, KeepsHostDestinations, KeepsDeliveredSources, DropsByOneView, FewRedirects, DropsAheadOfLookup, DropsNoEstablished, OneDestination, OneHostSource, PassesHost, KeepsDestinations, WritesInsideOut, TellsByAckAlone, OneSource, DropsAlways, WritesWholeAddresses}
use Rattle.fws_place.specs.Clauses.{Breaks}

-- the number by which a clause is named
abbrev pub number_of : Clause → ℕ
number_of FewOutcomes = 1
number_of KeepsSourcePorts = 2
number_of KeepsHostDestinations = 3
number_of KeepsDeliveredSources = 4
number_of DropsByOneView = 5
number_of FewRedirects = 6
number_of DropsAheadOfLookup = 7
number_of DropsNoEstablished = 8
number_of OneDestination = 9
number_of OneHostSource = 10
number_of PassesHost = 11
number_of KeepsDestinations = 12
number_of WritesInsideOut = 13
number_of TellsByAckAlone = 14
number_of OneSource = 15
number_of DropsAlways = 16
number_of WritesWholeAddresses = 17

-- the clauses of a system, by their numbers
abbrev pub clauses_of : Lang → List Clause
clauses_of Iptables = FewOutcomes ∷ DropsByOneView ∷ []
clauses_of Ipfw = FewOutcomes ∷ KeepsSourcePorts ∷ KeepsHostDestinations ∷ KeepsDeliveredSources ∷ FewRedirects ∷ DropsAheadOfLookup
    ∷ WritesWholeAddresses ∷ []
clauses_of Pf = FewOutcomes ∷ KeepsSourcePorts ∷ KeepsHostDestinations ∷ KeepsDeliveredSources ∷ DropsNoEstablished ∷ OneDestination
    ∷ OneHostSource ∷ []
clauses_of Ios = FewOutcomes ∷ KeepsSourcePorts ∷ KeepsHostDestinations ∷ KeepsDeliveredSources ∷ PassesHost ∷ KeepsDestinations
    ∷ WritesInsideOut ∷ TellsByAckAlone ∷ OneSource ∷ DropsAlways ∷ WritesWholeAddresses ∷ []

-- no packets break the clause
abbrev pub Meets : Site → Tables → Clause → Type 0
Meets site tables clause = (first : Pair) (second : Option Pair) → Breaks site tables clause first second → ⊥

-- the system can hold the tables: they meet each of its clauses
abbrev pub Fits : Lang → Site → Tables → Type 0
Fits target site tables = All (Meets site tables) (clauses_of target)

-- the named clause is the first of the system's that the tables don't meet, and the named packets show so
pub record IsBreach (target : Lang) (site : Site) (tables : Tables) (b : Breach) : Type 0 where
  pub front : List Clause
  pub back : List Clause
  pub clauses : clauses_of target ≡ front ++ b.clause ∷ back
  pub met : All (Meets site tables) front
  pub broken : Breaks site tables b.clause b.first b.second
