-- Where packets turn to at a cut.
use Rattle.std.specs.Prelude.{◌≡◌, ◌⊎◌, ℕ, suc, ◌<◌, Bool, true, false, Option, Some, List, [], ◌∷◌, map, drop, All, slice_get}
use Rattle.std.specs.List.{list_any}
use Rattle.fws_net.specs.declared.packet.Packet.{Packet}
use Rattle.fws_ios.specs.declared.config.IosEntry.{IosEntry}
use Rattle.fws_ios_put_entries.specs.declared.path.Path.{Path}
use Rattle.fws_ios_put_entries.specs.declared.side.Side.{Side}
use Rattle.fws_ios_put_entries.specs.Narrowing.{HasAddresses}
use Rattle.fws_ios_put_entries.specs.Paths.{hits, number_of, path_has}
use Rattle.fws_tree.specs.declared.node.Kid.{Kid}
use Rattle.fws_ios_put_lists.specs.declared.turn.Turn.{Turn}
use Rattle.fws_ios_put_lists.specs.Blocks.{AreFine, Comes, IsGiven, IsGoodPath, IsPassed, IsPathTo, IsPoint, Meeting, Scene}

-- Turns one after another

-- a packet that is on the path of a turn comes to its node, and goes on if its value is what packets fall to there; behind the last turn
-- it falls
abbrev pub Leads : Scene → Option Bool → Packet → List ℕ → Bool → List Turn → Type 0
Leads s falls p x b [] = falls ≡ Some b
Leads s falls p x b (turn ∷ turns) =
    ((path_has turn.path p ≡ true) × Comes s turn.node x b × (turn.falls ≡ Some b → Leads s falls p x b turns))
    ⊎ ((path_has turn.path p ≡ false) × Leads s falls p x b turns)

-- the packet is on the path of a turn
abbrev pub some_turn_has : List Turn → Packet → Bool
some_turn_has turns p = list_any (λ (turn : Turn). path_has turn.path p) turns

-- the entries of the first n turns
pub record AreTurnEntries (s : Scene) (keep : Bool) (falls : Option Bool) (turns : List Turn) (n : ℕ) (block : List IosEntry) : Type 0 where
  pub fine : AreFine keep block
  pub passes : (g : Meeting) (rest : List IosEntry) → HasAddresses g.transit.packet → some_turn_has turns g.transit.packet ≡ false → IsPassed g block rest
  pub decides : (g : Meeting) (rest : List IosEntry) (x : List ℕ) (b : Bool) → IsPoint s g.transit.packet x → Leads s falls g.transit.packet x b turns
      → IsGiven g block rest b ⊎ (Leads s falls g.transit.packet x b (drop n turns) × IsPassed g block rest)

-- a turn to a node before this one
pub record IsGoodTurn (s : Scene) (at : ℕ) (turn : Turn) : Type 0 where
  pub before : turn.node < at
  pub good : IsPathTo s turn.node turn.path

-- the turns of a cut for packets on a path
pub record AreTurns (s : Scene) (at : ℕ) (path : Path) (falls : Option Bool) (turns : List Turn) : Type 0 where
  pub good : All (IsGoodTurn s at) turns
  pub none : (p : Packet) → HasAddresses p → path_has path p ≡ false → some_turn_has turns p ≡ false
  pub leads : (p : Packet) (x : List ℕ) (b : Bool) → IsPoint s p x → path_has path p ≡ true → Comes s at x b → Leads s falls p x b turns

-- Tests of kids

-- a turn on each path
abbrev pub turns_to : ℕ → Option Bool → List Path → List Turn
turns_to node falls paths = map (λ (path : Path). record { path = path; node = node; falls = falls }) paths

-- a turn for a kid's set
pub record IsTest (side : Side) (kid : Kid) (path : Path) (falls : Option Bool) (turn : Turn) : Type 0 where
  pub node : turn.node ≡ kid.node
  pub good : IsGoodPath (suc (number_of side)) turn.path
  pub falls_is : turn.falls ≡ falls
  pub on : (p : Packet) → HasAddresses p → path_has turn.path p ≡ true → (path_has path p ≡ true) × (hits side kid.set p ≡ true)

-- each packet on the path whose field is a member of the kid's set is on the path of a turn
abbrev pub IsCaught : Side → Kid → Path → List Turn → Type 0
IsCaught side kid path turns = (p : Packet) → HasAddresses p → path_has path p ≡ true → hits side kid.set p ≡ true → some_turn_has turns p ≡ true

-- the turns for a kid's set, unless it is the one that is left to the end
pub record AreKidTests (side : Side) (kid : Kid) (path : Path) (last : ℕ) (falls : Option Bool) (turns : List Turn) : Type 0 where
  pub each : All (IsTest side kid path falls) turns
  pub all : (last ≡ kid.node) ⊎ IsCaught side kid path turns

-- the turns for the sets of the first n kids but those that are left to the end
pub record AreTests (side : Side) (kids : List Kid) (path : Path) (last : ℕ) (falls : Option Bool) (n : ℕ) (turns : List Turn) : Type 0 where
  pub each : All (λ turn. (i : ℕ) × (kid : Kid) × (slice_get kids i ≡ Some kid) × IsTest side kid path falls turn) turns
  pub all : (i : ℕ) (kid : Kid) → i < n → slice_get kids i ≡ Some kid → (last ≡ kid.node) ⊎ IsCaught side kid path turns

-- a kid has the node
pub record IsKidNode (kids : List Kid) (n : ℕ) : Type 0 where
  pub place : ℕ
  pub kid : Kid
  pub there : slice_get kids place ≡ Some kid
  pub node : kid.node ≡ n
