-- Blocks of rules, by what they do with transits that have one tag.
use Rattle.std.specs.Prelude.{◌≡◌, ◌≢◌, ◌⊎◌, ℕ, ◌≤◌, ◌<◌, Bool, true, false, Some, None, List, [], ◌∷◌, ◌++◌, length, slice_get}
use Rattle.std.specs.List.{list_all}
use Rattle.fws_net.specs.declared.outcome.Outcome.{Outcome}
use Rattle.fws_net.specs.declared.outcome.Outcome.TheVariants.{Accept, Drop}
use Rattle.fws_net.specs.declared.outcome.Rewrite.{Rewrite}
use Rattle.fws_net.specs.declared.packet.Packet.{Packet}
use Rattle.fws_net.specs.declared.site.Site.{Site}
use Rattle.fws_net.specs.declared.transit.Transit.{Transit}
use Rattle.fws_pf.specs.declared.config.PfRule.{PfRule}
use Rattle.fws_pf.specs.Walk.{rules_walk}
use Rattle.fws_tree.specs.declared.node.Kid.{Kid}
use Rattle.fws_tree.specs.declared.node.Node.{Node}
use Rattle.fws_tree.specs.declared.node.Node.TheVariants.{Cut}
use Rattle.fws_tree_seen.specs.declared.seen.Seen.TheVariants.{Entered}
use Rattle.fws_tree_seen.specs.Reached.{IsTopped}
use Rattle.fws_pf_put_filter.specs.Filters.{keeps_state, ComesIn, Ends, ReachesBelow}
use Rattle.fws_pf_print.specs.Printable.{is_printed_rule}
use Rattle.fws_pf_put_filter.specs.Rules.{passing}
use Rattle.fws_pf_put_filter.specs.States.{state_at, IsLeafNode}

-- the transit with one tag and a verdict
abbrev pub under : ℕ → Bool → Transit → Transit
under k verdict t = record t { tags = k ∷ []; verdict = verdict }

-- rules that can be printed and keep state
pub record AreSound (site : Site) (block : List PfRule) : Type 0 where
  pub printed : list_all (is_printed_rule site) block ≡ true
  pub tracks : list_all keeps_state block ≡ true

-- a packet for which nodes are made
pub record IsFine (tops : List ℕ) (nodes : List Node) (n : ℕ) (outward : Bool) (p : Packet) : Type 0 where
  pub topped : IsTopped tops Entered p
  pub comes : ComesIn tops nodes n outward p

-- the node doesn't cut the entry
abbrev pub KeepsEntry : List Node → ℕ → Type 0
KeepsEntry nodes n = (kids : List Kid) → slice_get nodes n ≡ Some (Cut 0 kids) → ⊥

-- what the packet reaches below an earlier node it reaches below this one
pub record LeadsTo (leaves : List Outcome) (nodes : List Node) (n : ℕ) (p : Packet) (k : ℕ) : Type 0 where
  pub before : k < n
  pub keeps : KeepsEntry nodes k
  pub reached : (w : Outcome) → ReachesBelow leaves nodes k p w → ReachesBelow leaves nodes n p w

-- the block lets transits with other tags by
abbrev pub LetsBy : Site → ℕ → List PfRule → Type 0
LetsBy site n block =
    (outward : Bool) (k : ℕ) (t : Transit) (rest : List PfRule) → n ≢ k
    → rules_walk site outward (block ++ rest) (under k false t) ≡ rules_walk site outward rest (under k false t)

-- the block moves a transit from the node to the state of a node to which its packet is led. It may leave it where packets are dropped there
pub record IsMoved (site : Site) (leaves : List Outcome) (nodes : List Node) (states : List ℕ) (n : ℕ) (outward : Bool) (t : Transit) (block : List PfRule) : Type 0 where
  pub kid : ℕ
  pub led : LeadsTo leaves nodes n t.packet kid
  pub goes : (rest : List PfRule)
      → (rules_walk site outward (block ++ rest) (under n false t) ≡ rules_walk site outward rest (under (state_at states kid) false t))
      ⊎ (IsLeafNode leaves nodes (state_at states kid) Drop × (rules_walk site outward (block ++ rest) (under n false t) ≡ rules_walk site outward rest (under n false t)))

-- the rules of a cut that is its own state
pub record IsCutBlock (site : Site) (tops : List ℕ) (leaves : List Outcome) (nodes : List Node) (states : List ℕ) (n : ℕ) (block : List PfRule) : Type 0 where
  pub cut : (w : Outcome) → IsLeafNode leaves nodes n w → ⊥
  pub sound : AreSound site block
  pub lets_by : LetsBy site n block
  pub moves : (outward : Bool) (t : Transit) → IsFine tops nodes n outward t.packet → IsMoved site leaves nodes states n outward t block

-- the rules of a node: a leaf, and a cut that isn't its own state, have none
abbrev pub IsNodeBlock : Site → List ℕ → List Outcome → List Node → List ℕ → ℕ → List PfRule → Type 0
IsNodeBlock site tops leaves nodes states n block =
    ((block ≡ []) × ((f : ℕ) (kids : List Kid) → slice_get nodes n ≡ Some (Cut f kids) → state_at states n ≢ n)) ⊎ IsCutBlock site tops leaves nodes states n block

-- Filters from the end

-- the node is a leaf, or stands before the number
abbrev pub IsDone : List Outcome → List Node → ℕ → ℕ → Type 0
IsDone leaves nodes m n = (n < m) ⊎ ((w : Outcome) × IsLeafNode leaves nodes n w)

-- rules that end a transit with the tag of a node that is its own state: for what is reached below it, if it is a leaf or stands
-- before the number, and else dropped
pub record Decide (site : Site) (tops : List ℕ) (leaves : List Outcome) (nodes : List Node) (states : List ℕ) (m : ℕ) (rules : List PfRule) : Type 0 where
  pub done : (outward : Bool) (n : ℕ) (t : Transit) → n < length nodes → state_at states n ≡ n → IsDone leaves nodes m n → IsFine tops nodes n outward t.packet
      → (w : Outcome) × ReachesBelow leaves nodes n t.packet w × Ends leaves nodes states w t (rules_walk site outward rules (under n false t))
  pub late : (outward : Bool) (n f : ℕ) (kids : List Kid) (t : Transit) → m ≤ n → slice_get nodes n ≡ Some (Cut f kids)
      → rules_walk site outward rules (under n false t) ≡ None

-- the rules of the nodes from a number on: ahead of rules that decide below it they decide for all
pub record AreMoves (site : Site) (tops : List ℕ) (leaves : List Outcome) (nodes : List Node) (states : List ℕ) (m : ℕ) (block : List PfRule) : Type 0 where
  pub sound : AreSound site block
  pub decide : (rest : List PfRule) → Decide site tops leaves nodes states m rest → Decide site tops leaves nodes states (length nodes) (block ++ rest)

-- the node is an accepting leaf that is its own state
pub record IsAccepting (leaves : List Outcome) (nodes : List Node) (states : List ℕ) (n : ℕ) : Type 0 where
  pub own : state_at states n ≡ n
  pub to : Rewrite
  pub leaf : IsLeafNode leaves nodes n (Accept to)

-- rules that pass transits with the tag of an accepting state before the number, and let others by
pub record ArePasses (site : Site) (leaves : List Outcome) (nodes : List Node) (states : List ℕ) (m : ℕ) (block : List PfRule) : Type 0 where
  pub sound : AreSound site block
  pub pass : (outward : Bool) (n : ℕ) (verdict : Bool) (t : Transit) (rest : List PfRule) → n < m → IsAccepting leaves nodes states n
      → rules_walk site outward (block ++ rest) (under n verdict t) ≡ rules_walk site outward rest (under n true t)
  pub let_by : (outward : Bool) (n : ℕ) (verdict : Bool) (t : Transit) (rest : List PfRule) → (n < m → IsAccepting leaves nodes states n → ⊥)
      → rules_walk site outward (block ++ rest) (under n verdict t) ≡ rules_walk site outward rest (under n verdict t)

-- the rule of an accepting state; other nodes have none
abbrev pub IsPassOf : List Outcome → List Node → List ℕ → ℕ → List PfRule → Type 0
IsPassOf leaves nodes states n block =
    ((block ≡ passing n ∷ []) × IsAccepting leaves nodes states n) ⊎ ((block ≡ []) × (IsAccepting leaves nodes states n → ⊥))
