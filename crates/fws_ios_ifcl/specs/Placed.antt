-- The diagram of a configuration of Cisco IOS in which each entry and each translation has its places: as the control diagram, but that
-- each translation asks its list, also one that was asked before.
use Rattle.std.specs.Prelude.{ℕ, ◌+◌, Bool, true, false, List, [], ◌∷◌, ◌++◌, length, codes, if◌then◌else◌}
use Rattle.std.specs.Option.{option_map_or}
use Rattle.std.specs.Str.{bytes_eq}
use Rattle.fws_ifcl.specs.declared.diagram.Chain.{Chain}
use Rattle.fws_ifcl.specs.declared.diagram.Ifcl.{Ifcl}
use Rattle.fws_ifcl.specs.declared.diagram.Rule.{Rule}
use Rattle.fws_ifcl.specs.declared.diagram.Spot.{Spot}
use Rattle.fws_ios.specs.declared.config.IosConfig.{IosConfig}
use Rattle.fws_ios.specs.declared.config.IosEntry.{IosEntry}
use Rattle.fws_ios.specs.declared.config.IosGroup.{IosGroup}
use Rattle.fws_ios.specs.declared.config.IosList.{IosList}
use Rattle.fws_ios.specs.declared.config.IosNat.{IosNat}
use Rattle.fws_ios.specs.declared.config.IosNat.TheVariants.{Static, List as Listed}
use Rattle.fws_ios.specs.Uses.{first_translation}
use Rattle.fws_ios.specs.Walk.{is_directed, list_named}
use Rattle.fws_ios_ifcl.specs.Blocks.{applied, choosing_rules, static_rules}
use Rattle.fws_ios_ifcl.specs.Diagram.{diagram_of, list_rules, destination_rules, source_front}

-- Rules

-- the rules of all translations by lists, of which the first has the place at: each asks its list, whatever those before it asked
abbrev pub asking_from : ℕ → List IosList → List IosNat → List Rule
asking_from at lists [] = []
asking_from at lists (nat ∷ nats) = choosing_rules at lists [] nat ++ asking_from (at + length (choosing_rules at lists [] nat)) lists nats

-- sources are translated by statics first and by lists then
abbrev pub placed_sources : IosConfig → List Rule
placed_sources c = source_front c ++ asking_from (length (source_front c)) c.lists c.nats

-- the chains of the control diagram, with these rules for sources
abbrev pub chains_with : List Rule → IosConfig → List Chain
chains_with sources c =
    record { name = codes "in"; rules = list_rules false c } ∷ record { name = codes "destination"; rules = destination_rules c }
    ∷ record { name = codes "source"; rules = sources } ∷ record { name = codes "out"; rules = list_rules true c } ∷ []

abbrev pub diagram_with : List Rule → IosConfig → Ifcl
diagram_with sources c = record (diagram_of c) { chains = chains_with sources c }

-- the whole diagram
abbrev pub placed_of : IosConfig → Ifcl
placed_of c = diagram_with (placed_sources c) c

-- Numbers

-- how many entries and translations there are
abbrev pub count_of : IosConfig → ℕ
count_of c = first_translation c + length c.nats

-- the number of the first entry of the list of this name, of lists of which the first one's first entry is counted n; 0 where there is
-- no list of the name
abbrev pub first_entry : ℕ → List ℕ → List IosList → ℕ
first_entry n name [] = 0
first_entry n name (l ∷ lists) = if bytes_eq l.name name then n else first_entry (n + length l.entries) name lists

-- the number of the first entry of each list
abbrev pub first_entries : ℕ → List IosList → List ℕ
first_entries n [] = []
first_entries n (l ∷ lists) = n ∷ first_entries (n + length l.entries) lists

-- Spots

-- the rule of number n at a place of a chain
abbrev pub spot : ℕ → ℕ → ℕ → Spot
spot chain at n = record { rule = n; at = record { chain = chain; rule = at } }

-- entries of a list, of which the first is counted n and has the place at
abbrev pub listing_spots : ℕ → ℕ → ℕ → List IosEntry → List Spot
listing_spots chain at n [] = []
listing_spots chain at n (entry ∷ entries) = spot chain at n ∷ listing_spots chain (at + 1) (n + 1) entries

-- those of a list that is applied in this direction, whose first rule has the place at
abbrev pub applied_spots : ℕ → Bool → ℕ → List IosList → IosGroup → List Spot
applied_spots chain outward at lists g =
    if is_directed outward g then option_map_or (λ l. listing_spots chain (at + 2) (first_entry 0 g.list lists) l.entries) (list_named g.list lists) [] else []

abbrev pub applied_spots_from : ℕ → Bool → ℕ → List IosList → List IosGroup → List Spot
applied_spots_from chain outward at lists [] = []
applied_spots_from chain outward at lists (g ∷ gs) =
    applied_spots chain outward at lists g ++ applied_spots_from chain outward (at + length (applied outward at lists g)) lists gs

-- a static, of number n, stands at the first of its rules
abbrev pub static_spots : ℕ → ℕ → ℕ → IosNat → List Spot
static_spots chain at n (Static proto local global) = spot chain at n ∷ []
static_spots chain at n (Listed name addr) = []

abbrev pub statics_spots : ℕ → Bool → ℕ → ℕ → List IosNat → List Spot
statics_spots chain outward at n [] = []
statics_spots chain outward at n (nat ∷ nats) =
    static_spots chain at n nat ++ statics_spots chain outward (at + length (static_rules outward at nat)) (n + 1) nats

-- the entries of a list that chooses packets, whose first rule has the place at, and the translation, of number n, where the
-- address is written
abbrev pub choosing_spots : ℕ → ℕ → ℕ → ℕ → List IosEntry → List Spot
choosing_spots chain at first n entries = listing_spots chain at first entries ++ spot chain (at + (length entries + 1)) n ∷ []

abbrev pub asking_spots : ℕ → ℕ → List IosList → ℕ → IosNat → List Spot
asking_spots chain at lists n (Static proto local global) = []
asking_spots chain at lists n (Listed name addr) =
    option_map_or (λ l. choosing_spots chain at (first_entry 0 name lists) n l.entries) (list_named name lists) []

abbrev pub asking_spots_from : ℕ → ℕ → List IosList → ℕ → List IosNat → List Spot
asking_spots_from chain at lists n [] = []
asking_spots_from chain at lists n (nat ∷ nats) =
    asking_spots chain at lists n nat ++ asking_spots_from chain (at + length (choosing_rules at lists [] nat)) lists (n + 1) nats

-- those of each chain
abbrev pub list_spots : ℕ → Bool → IosConfig → List Spot
list_spots chain outward c = applied_spots_from chain outward 0 c.lists c.groups

abbrev pub destination_spots : IosConfig → List Spot
destination_spots c = statics_spots 1 false 3 (first_translation c) c.nats

abbrev pub source_spots : IosConfig → List Spot
source_spots c =
    statics_spots 2 true 4 (first_translation c) c.nats ++ asking_spots_from 2 (length (source_front c)) c.lists (first_translation c) c.nats

-- the spots of all entries and translations
abbrev pub spots_of : IosConfig → List Spot
spots_of c = list_spots 0 false c ++ destination_spots c ++ source_spots c ++ list_spots 3 true c
