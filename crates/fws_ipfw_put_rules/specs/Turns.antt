-- Where packets turn to at a cut.
use Rattle.std.specs.Prelude.{◌≡◌, ◌⊎◌, ℕ, ◌+◌, ◌≤◌, true, false, Some, None, List, [], ◌∷◌, ◌++◌, length, map, MatchOption}
use Rattle.std.specs.List.{list_all, list_any}
use Rattle.fws_iv.specs.declared.iv.Iv.{Iv}
use Rattle.fws_iv.specs.Ivs.{has}
use Rattle.fws_net.specs.declared.condition.Lit.{Lit}
use Rattle.fws_net.specs.declared.site.Site.{Site}
use Rattle.fws_net.specs.declared.view.View.{View}
use Rattle.fws_net.specs.Conditions.{lit_holds}
use Rattle.fws_tree.specs.declared.node.Kid.{Kid}
use Rattle.fws_tree.specs.Plain.{Plain}
use Rattle.fws_tree_seen.specs.declared.seen.Seen.{Seen}
use Rattle.fws_tree_seen.specs.Reached.{Reaches}
use Rattle.fws_tree_seen.specs.Shown.{seen_field}
use Rattle.fws_ipfw_put_rules.specs.declared.choice.Choice.{Choice}
use Rattle.fws_ipfw_put_rules.specs.declared.turn.Turn.{Turn}
use Rattle.fws_ipfw_put_rules.specs.Literals.{holds_or_none, is_printed_at}
use Rattle.fws_ipfw_put_rules.specs.Pieces.{ArePieces}

-- a turn to the node for each literal
abbrev pub turns_for : ℕ → List Lit → List Turn
turns_for node lits = map (λ lit. record { lit = Some lit; node = node }) lits

-- for one kid after another, turns to its node for literals that are pieces of its set
abbrev pub AreKidTurns : (List Iv → List Lit → Type 0) → List Kid → List Turn → Type 0
AreKidTurns Pieces [] turns = turns ≡ []
AreKidTurns Pieces (kid ∷ kids) turns =
    (lits : List Lit) × (rest : List Turn) × (turns ≡ turns_for kid.node lits ++ rest) × Pieces kid.set lits × AreKidTurns Pieces kids rest

-- the turn of all packets that are left
abbrev pub last_turn : Kid → List Turn
last_turn kid = record { lit = None; node = kid.node } ∷ []

-- turns to the nodes of all kids but one, and last one without a literal to the node of that one
pub record AreTurns (AreTests : List Kid → List Turn → Type 0) (kids : List Kid) (turns : List Turn) : Type 0 where
  pub front : List Kid
  pub other : Kid
  pub back : List Kid
  pub split : kids ≡ front ++ other ∷ back
  pub tests : List Turn
  pub all : turns ≡ tests ++ last_turn other
  pub sorted : AreTests (front ++ back) tests

-- the turns of a cut of a field; where nothing is seen in its place, only the last turn
abbrev pub AreCutTurns : Seen → ℕ → List Kid → List Turn → Type 0
AreCutTurns seen f kids turns = AreTurns (λ others tests. MatchOption (seen_field seen f) (tests ≡ []) (λ field. AreKidTurns (ArePieces field) others tests)) kids turns

-- literals of which one holds just where the receiving interface is a member; they are printed
pub record AreEntries (top : ℕ) (set : List Iv) (lits : List Lit) : Type 0 where
  pub hit : (v : View) (e : ℕ) → v.recv ≡ Some e → 1 ≤ e → e ≤ top → list_any (lit_holds v) lits ≡ has set e
  pub printed : (site : Site) → top ≡ length site.faces + 1 → list_all (is_printed_at site 4) lits ≡ true

-- the first turn whose literal holds leads to the choice
abbrev pub Leads : Seen → (ℕ → Plain Choice) → View → List Turn → Choice → Type 0
Leads seen tree v [] w = ⊥
Leads seen tree v (turn ∷ turns) w =
    ((holds_or_none v turn.lit ≡ true) × Reaches seen v.packet (tree turn.node) w) ⊎ ((holds_or_none v turn.lit ≡ false) × Leads seen tree v turns w)
