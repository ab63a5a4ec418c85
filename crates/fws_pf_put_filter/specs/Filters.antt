-- Filter rules that decide what the nodes of a tree decide.
use Rattle.std.specs.Prelude.{◌≡◌, ℕ, ◌≤◌, ◌<◌, Bool, true, false, ◌&&◌, ◌||◌, not, Option, Some, None, List, [], ◌∷◌, length, slice_get}
use Rattle.std.specs.List.{list_all, list_any}
use Rattle.fws_net.specs.declared.condition.Lit.{Lit}
use Rattle.fws_net.specs.declared.outcome.End.{End}
use Rattle.fws_net.specs.declared.outcome.Outcome.{Outcome}
use Rattle.fws_net.specs.declared.outcome.Outcome.TheVariants.{Drop, Accept}
use Rattle.fws_net.specs.declared.packet.Packet.{Packet}
use Rattle.fws_net.specs.declared.site.Site.{Site}
use Rattle.fws_net.specs.declared.transit.Transit.{Transit}
use Rattle.fws_net.specs.Transits.{with_only_tag, with_verdict}
use Rattle.fws_box.specs.declared.field.Field.TheVariants as fields
use Rattle.fws_pf.specs.declared.config.PfRule.{PfRule}
use Rattle.fws_pf.specs.declared.config.Way.{Way}
use Rattle.fws_pf.specs.declared.config.Way.TheVariants.{Both}
use Rattle.fws_pf.specs.Walk.{rules_walk}
use Rattle.fws_tree.specs.declared.node.Kid.{Kid}
use Rattle.fws_tree.specs.declared.node.Node.{Node}
use Rattle.fws_tree.specs.declared.node.Node.TheVariants.{Cut}
use Rattle.fws_tree.specs.Plain.{branch}
use Rattle.fws_tree.specs.Shared.{subtree_of}
use Rattle.fws_tree_seen.specs.declared.seen.Seen.TheVariants.{Entered}
use Rattle.fws_tree_seen.specs.Reached.{IsTopped, Reaches}
use Rattle.fws_pf_print.specs.Printable.{is_printed_rule}
use Rattle.fws_pf_put_filter.specs.States.{state_at, IsSourceState}
use Rattle.fws_box.specs.Fields.{value_of}

-- where the node cuts the entry, the packet comes in by an interface
abbrev pub ComesIn : List ℕ → List Node → ℕ → Bool → Packet → Type 0
ComesIn tops nodes n outward p = (kids : List Kid) → slice_get nodes n ≡ Some (Cut 0 kids)
    → (outward ≡ false) × (1 ≤ p.entry) × (p.entry ≤ value_of tops fields.Entry)

-- what the packet reaches below the node at its entry
abbrev pub ReachesBelow : List Outcome → List Node → ℕ → Packet → Outcome → Type 0
ReachesBelow leaves nodes n p w = Reaches Entered p (branch 0 (subtree_of leaves nodes n) p.entry) w

-- a transit passes with the tag of an accepting state alone, whose source is this
pub record IsPassed (leaves : List Outcome) (nodes : List Node) (states : List ℕ) (src : Option End) (t : Transit) (r : Option Transit) : Type 0 where
  pub state : ℕ
  pub own : state_at states state ≡ state
  pub source : IsSourceState leaves nodes state src
  pub passes : r ≡ Some (with_verdict true (with_only_tag state t))

-- how a transit ends for an outcome
abbrev pub Ends : List Outcome → List Node → List ℕ → Outcome → Transit → Option Transit → Type 0
Ends leaves nodes states Drop t r = r ≡ None
Ends leaves nodes states (Accept v) t r = IsPassed leaves nodes states v.src t r

-- a rule that passes packets keeps state
abbrev pub keeps_state : PfRule → Bool
keeps_state r = not r.pass || r.keep

-- a rule is met on both passes
abbrev pub is_both : Way → Bool
is_both Both = true
is_both _ = false

-- a condition without literals always holds
abbrev pub asks_nothing : List Lit → Bool
asks_nothing [] = true
asks_nothing (lit ∷ lits) = false

-- a rule that every packet matches, on both passes
abbrev pub catches_all : PfRule → Bool
catches_all r = is_both r.way && asks_nothing r.cond

-- filter rules that can be printed, keep state and match every packet. A transit that has the tag of a node's state alone ends for an outcome that its
-- packet reaches below the node
pub record IsFilter (site : Site) (tops : List ℕ) (leaves : List Outcome) (nodes : List Node) (states : List ℕ) (block : List PfRule) : Type 0 where
  pub printed : list_all (is_printed_rule site) block ≡ true
  pub tracks : list_all keeps_state block ≡ true
  pub catches : list_any catches_all block ≡ true
  pub decides : (outward : Bool) (n : ℕ) (t : Transit) → n < length nodes → t.tags ≡ state_at states n ∷ [] → IsTopped tops Entered t.packet
      → ComesIn tops nodes n outward t.packet
      → (w : Outcome) × ReachesBelow leaves nodes n t.packet w × Ends leaves nodes states w t (rules_walk site outward block t)
