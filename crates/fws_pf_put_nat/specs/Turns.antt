-- The turns of a cut, one after another, and the tests of its kids.
use Rattle.std.specs.Prelude.{◌≡◌, ◌⊎◌, ℕ, suc, ◌<◌, Bool, true, false, ◌&&◌, Some, List, [], ◌∷◌, map, drop, All, slice_get}
use Rattle.std.specs.List.{list_any}
use Rattle.fws_iv.specs.declared.iv.Iv.{Iv}
use Rattle.fws_net.specs.declared.packet.Packet.{Packet}
use Rattle.fws_net.specs.declared.transit.Transit.{Transit}
use Rattle.fws_pf.specs.declared.config.PfNat.{PfNat}
use Rattle.fws_tree.specs.declared.node.Kid.{Kid}
use Rattle.fws_pf_put_nat.specs.declared.path.Path.{Path}
use Rattle.fws_pf_put_nat.specs.declared.side.Side.{Side}
use Rattle.fws_pf_put_nat.specs.declared.side.Side.TheVariants as sides
use Rattle.fws_pf_put_nat.specs.declared.turn.Turn.{Turn}
use Rattle.fws_pf_put_nat.specs.declared.turn.Last.{Last}
use Rattle.fws_pf_put_nat.specs.declared.turn.Last.TheVariants.{Root, Kept, Nothing}
use Rattle.fws_pf_put_nat.specs.Paths.{hits, number_of, path_has, some_path_has, IsGoodPath}
use Rattle.fws_pf_put_nat.specs.Scenes.{Scene, IsFine, CutsFrom, IsCome, IsRootNode, Meets}
use Rattle.fws_pf_put_nat.specs.Blocks.{IsLedBy, IsPassed, are_printed, MayPass}

-- one turn after another: a packet that is on its path meets its node, and goes on if it may pass there; behind the last one it
-- may pass
abbrev pub Leads : Scene → Bool → Packet → List Turn → Type 0
Leads s falls p [] = MayPass s falls p
Leads s falls p (turn ∷ turns) =
    ((path_has turn.path p ≡ true) × Meets s turn.node p × (MayPass s turn.falls p → Leads s falls p turns))
    ⊎ ((path_has turn.path p ≡ false) × Leads s falls p turns)

abbrev pub some_turn_has : List Turn → Packet → Bool
some_turn_has turns p = list_any (λ (turn : Turn). path_has turn.path p) turns

-- the translations of the turns before one
pub record AreTurnRules (s : Scene) (falls : Bool) (turns : List Turn) (n : ℕ) (block : List PfNat) : Type 0 where
  pub printed : are_printed s block ≡ true
  pub passes : (m : Transit) (rest : List PfNat) → IsFine s m.packet → some_turn_has turns m.packet ≡ false → IsPassed s block rest m
  pub decides : (m : Transit) (rest : List PfNat) → IsFine s m.packet → Leads s falls m.packet turns
      → IsLedBy s block rest m ⊎ (Leads s falls m.packet (drop n turns) × IsPassed s block rest m)

-- a path on which translations of the node are put
abbrev pub IsPathTo : Scene → ℕ → Path → Type 0
IsPathTo s n path = (from : ℕ) × IsGoodPath s.site s.outward from path × CutsFrom s n from

-- a turn to a node before this one
pub record IsGoodTurn (s : Scene) (at : ℕ) (turn : Turn) : Type 0 where
  pub before : turn.node < at
  pub good : IsPathTo s turn.node turn.path
  pub later : CutsFrom s turn.node 1

-- the turns of a cut for packets on a path
pub record AreTurns (s : Scene) (at : ℕ) (path : Path) (falls : Bool) (turns : List Turn) : Type 0 where
  pub good : All (IsGoodTurn s at) turns
  pub none : (p : Packet) → IsFine s p → path_has path p ≡ false → some_turn_has turns p ≡ false
  pub leads : (p : Packet) → IsFine s p → path_has path p ≡ true → IsCome s at p → Leads s falls p turns

-- Tests of kids

-- a turn on each path
abbrev pub turns_to : ℕ → Bool → List Path → List Turn
turns_to node falls paths = map (λ (path : Path). record { path = path; node = node; falls = falls }) paths

-- paths on one of which a packet is just where it is on this path and its field is a member of the set
pub record ArePaths (s : Scene) (side : Side) (set : List Iv) (path : Path) (next : ℕ) (paths : List Path) : Type 0 where
  pub same : (p : Packet) → IsFine s p → some_path_has paths p ≡ (path_has path p && hits side set p)
  pub good : All (IsGoodPath s.site s.outward next) paths

-- the node is left to what becomes of all others
abbrev pub IsLeft : Scene → Last → ℕ → Type 0
IsLeft s (Root n) node = IsRootNode s node
IsLeft s (Kept n) node = n ≡ node
IsLeft s Nothing node = ⊥

-- packets that get no end pass the tests
abbrev pub passes_root : Last → Bool
passes_root (Root n) = true
passes_root (Kept n) = false
passes_root Nothing = false

-- the turn of all that no test takes
abbrev pub last_turns : Last → Path → Bool → List Turn
last_turns (Root n) path falls = record { path = path; node = n; falls = falls } ∷ []
last_turns (Kept n) path falls = record { path = path; node = n; falls = falls } ∷ []
last_turns Nothing path falls = []

-- a turn for a kid's set
pub record IsTest (s : Scene) (side : Side) (kid : Kid) (path : Path) (falls : Bool) (turn : Turn) : Type 0 where
  pub node : turn.node ≡ kid.node
  pub good : IsGoodPath s.site s.outward (suc (number_of side)) turn.path
  pub falls_is : turn.falls ≡ falls
  pub on : (p : Packet) → IsFine s p → path_has turn.path p ≡ true → (path_has path p ≡ true) × (hits side kid.set p ≡ true)

-- the turns for a kid's set, unless it is left
pub record AreKidTests (s : Scene) (side : Side) (kid : Kid) (path : Path) (last : Last) (turns : List Turn) : Type 0 where
  pub each : All (IsTest s side kid path (passes_root last)) turns
  pub all : IsLeft s last kid.node ⊎ ((p : Packet) → IsFine s p → path_has path p ≡ true → hits side kid.set p ≡ true → some_turn_has turns p ≡ true)

-- the turns for the sets of the first n kids that aren't left
pub record AreTests (s : Scene) (side : Side) (kids : List Kid) (path : Path) (last : Last) (n : ℕ) (turns : List Turn) : Type 0 where
  pub each : All (λ turn. (i : ℕ) × (kid : Kid) × (slice_get kids i ≡ Some kid) × IsTest s side kid path (passes_root last) turn) turns
  pub all : (i : ℕ) (kid : Kid) → i < n → slice_get kids i ≡ Some kid
      → IsLeft s last kid.node ⊎ ((p : Packet) → IsFine s p → path_has path p ≡ true → hits side kid.set p ≡ true → some_turn_has turns p ≡ true)

-- a field that each packet has, and that isn't told by the interface
abbrev pub IsAddress : Side → Type 0
IsAddress sides.Dst = Unit {0}
IsAddress sides.Src = Unit {0}
IsAddress _ = ⊥

-- a kid has the node
pub record IsKidNode (kids : List Kid) (n : ℕ) : Type 0 where
  pub place : ℕ
  pub kid : Kid
  pub there : slice_get kids place ≡ Some kid
  pub node : kid.node ≡ n

-- what becomes of all that no test takes, which is nothing only where each packet hits the set of some kid
abbrev pub IsLast : Scene → Side → List Kid → Last → Type 0
IsLast s side kids (Root n) = IsRootNode s n × IsKidNode kids n
IsLast s side kids (Kept n) = IsKidNode kids n
IsLast s side kids Nothing = IsAddress side
