-- Blocks of rules that decide on packets.
use Rattle.std.specs.Prelude.{◌≡◌, ◌≢◌, ℕ, ◌≤◌, ◌<◌, Bool, true, false, ◌&&◌, not, nat_le, nat_lt, Option, Some, List, ◌++◌, length, All, slice_get}
use Rattle.std.specs.List.{list_all, list_any}
use Rattle.std.specs.Option.{option_map_or}
use Rattle.fws_net.specs.declared.condition.Lit.{Lit}
use Rattle.fws_net.specs.declared.connection.Kind.{Kind}
use Rattle.fws_net.specs.declared.packet.Packet.{Packet}
use Rattle.fws_net.specs.declared.site.Site.{Site}
use Rattle.fws_net.specs.declared.transit.Transit.{Transit}
use Rattle.fws_net.specs.declared.view.View.{View}
use Rattle.fws_net.specs.Conditions.{holds}
use Rattle.fws_net.specs.Connections.{is_est}
use Rattle.fws_net.specs.Points.{tops_of}
use Rattle.fws_net.specs.Showing.{receiving}
use Rattle.fws_box.specs.declared.field.Field.TheVariants as fields
use Rattle.fws_ipfw.specs.declared.config.IpfwConfig.{IpfwConfig}
use Rattle.fws_ipfw.specs.declared.config.IpfwNat.{IpfwNat}
use Rattle.fws_ipfw.specs.declared.config.IpfwRule.{IpfwRule}
use Rattle.fws_ipfw.specs.declared.pass.Pass.{Pass}
use Rattle.fws_ipfw.specs.RuleText.{allows}
use Rattle.fws_ipfw.specs.Walk.{rules_walk, step_of, stepped, tagged, view_on}
use Rattle.fws_ipfw_print.specs.Printable.{is_printed_cond, is_printed_rule}
use Rattle.fws_tree.specs.declared.node.Kid.{Kid}
use Rattle.fws_tree.specs.declared.node.Node.{Node}
use Rattle.fws_tree.specs.declared.node.Node.TheVariants.{Leaf, Cut}
use Rattle.fws_tree.specs.Plain.{Plain, branch}
use Rattle.fws_tree.specs.Shared.{IsShared, subtree_of}
use Rattle.fws_tree_seen.specs.declared.field.PacketField.{PacketField}
use Rattle.fws_tree_seen.specs.declared.seen.Seen.{Seen}
use Rattle.fws_tree_seen.specs.Reached.{IsTopped, Reaches}
use Rattle.fws_tree_seen.specs.Shown.{seen_field}
use Rattle.fws_ipfw_put_rules.specs.declared.choice.Choice.{Choice}
use Rattle.fws_ipfw_put_rules.specs.declared.choice.Section.{Section}
use Rattle.fws_ipfw_put_rules.specs.declared.turn.Turn.{Turn}
use Rattle.fws_ipfw_put_rules.specs.Leaves.{all_leaves}
use Rattle.fws_ipfw_put_rules.specs.Lists.{act_of, tag_of, fits_at, is_of, is_plain}
use Rattle.fws_ipfw_put_rules.specs.Literals.{has_place, holds_or_none, is_printed_at}
use Rattle.fws_ipfw_put_rules.specs.Pieces.{place_at}
use Rattle.fws_ipfw_put_rules.specs.Turns.{Leads}
use Rattle.fws_box.specs.Fields.{value_of}

-- What packets do

-- the view of a packet for which a list is made
pub record IsFine (tops : List ℕ) (section : Section) (v : View) : Type 0 where
  pub topped : IsTopped tops section.seen v.packet
  pub shown : v.recv ≡ receiving v.packet
  pub origin : is_of section.origin v.packet ≡ true
  pub entry : v.packet.entry ≤ value_of tops fields.Entry

-- no rule of the block lets a packet of the class pass whatever its condition says
abbrev pub lets_through : Kind → List IpfwRule → Bool
lets_through k block = list_all (λ r. not (is_est k && r.keep)) block

-- the choice doesn't let packets of the class pass at its rules
abbrev pub is_quiet : Kind → Choice → Bool
is_quiet k choice = not (is_est k && allows (act_of choice))

-- what becomes of a packet for which the choice is made
abbrev pub chosen : IpfwConfig → Site → Packet → Kind → Bool → List IpfwRule → Pass → Choice → Option Transit
chosen c site p k outward rest m choice =
    stepped (rules_walk c site p k outward rest) (step_of c site p k outward (act_of choice) (record m { transit = tagged (tag_of choice) m.transit }))

-- Blocks

-- rules of one number that are printed and plain; where no leaf of the tree lets packets of a class pass at its rules, no rule of these
-- does
pub record IsBlock (site : Site) (number : ℕ) (t : Plain Choice) (block : List IpfwRule) : Type 0 where
  pub numbered : All (λ r. r.number ≡ number) block
  pub printed : (nats : List IpfwNat) → list_all (is_printed_rule site nats) block ≡ true
  pub plain : list_all is_plain block ≡ true
  pub quiet : (k : Kind) → all_leaves (is_quiet k) t ≡ true → lets_through k block ≡ true

-- the rules let by the packets for whose view the test fails; for the others they make a choice of which something is known
pub record AreRulesFor (tops : List ℕ) (section : Section) (Is : View → Choice → Type 0) (test : View → Bool) (block : List IpfwRule) : Type 0 where
  pub passes : (c : IpfwConfig) (site : Site) (p : Packet) (k : Kind) (outward : Bool) (rest : List IpfwRule) (to : ℕ) (m : Pass)
      → to ≤ section.number → All (λ r. section.number ≤ r.number) rest → lets_through k block ≡ true → test (view_on site k outward m.transit) ≡ false
      → rules_walk c site p k outward (block ++ rest) to m ≡ rules_walk c site p k outward rest to m
  pub decides : (c : IpfwConfig) (site : Site) (p : Packet) (k : Kind) (outward : Bool) (rest : List IpfwRule) (to : ℕ) (m : Pass)
      → to ≤ section.number → All (λ r. section.number ≤ r.number) rest → lets_through k block ≡ true
      → IsFine tops section (view_on site k outward m.transit) → test (view_on site k outward m.transit) ≡ true
      → (w : Choice) × Is (view_on site k outward m.transit) w × (fits_at section.number w ≡ true)
      × (rules_walk c site p k outward (block ++ rest) to m ≡ chosen c site p k outward rest m w)

-- the rules of a node under a condition, which make a choice that the packet reaches
pub record AreNodeRules (site : Site) (tops : List ℕ) (section : Section) (t : Plain Choice) (leaves : List Choice) (nodes : List Node) (at : ℕ) (cond : List Lit) (block : List IpfwRule) : Type 0 where
  pub is_block : IsBlock site section.number t block
  pub decide : AreRulesFor tops section (λ v w. Reaches section.seen v.packet (subtree_of leaves nodes at) w) (λ v. holds cond v) block

-- the rules of turns under a condition, which make the choice of the first turn whose literal holds
pub record AreTurnRules (site : Site) (tops : List ℕ) (section : Section) (t : Plain Choice) (leaves : List Choice) (nodes : List Node) (cond : List Lit) (turns : List Turn) (block : List IpfwRule) : Type 0 where
  pub is_block : IsBlock site section.number t block
  pub decide : AreRulesFor tops section (λ v w. Leads section.seen (subtree_of leaves nodes) v turns w)
      (λ v. holds cond v && list_any (λ turn. holds_or_none v turn.lit) turns) block

-- What is known before

-- what is known of a tree, its nodes and the section of a list
pub record IsPlanned (site : Site) (tops : List ℕ) (t : Plain Choice) (section : Section) (leaves : List Choice) (nodes : List Node) : Type 0 where
  pub tops_are : tops ≡ tops_of site
  pub shared : IsShared tops t leaves nodes
  pub fits : all_leaves (fits_at section.number) t ≡ true
  pub number : nat_lt 0 section.number && nat_le section.number 65534 ≡ true

-- a node that doesn't cut the entry
abbrev pub KeepsEntry : Node → Type 0
KeepsEntry (Leaf n) = Unit {0}
KeepsEntry (Cut f kids) = f ≢ 0

-- no literal has the place of a field that the tree of the node may cut
abbrev pub HasRoom : Seen → List Node → ℕ → List Lit → Type 0
HasRoom seen nodes at cond =
    (f : ℕ) (kids : List Kid) → slice_get nodes at ≡ Some (Cut f kids) → (g : ℕ) (field : PacketField) → f ≤ g → seen_field seen g ≡ Some field
    → has_place (place_at field) cond ≡ false

-- a condition under which rules for the node are put
pub record IsGoodCond (site : Site) (seen : Seen) (nodes : List Node) (at : ℕ) (cond : List Lit) : Type 0 where
  pub printed : is_printed_cond site cond ≡ true
  pub room : HasRoom seen nodes at cond

-- the literal of a turn, if it has one, tests the entry and is printed
abbrev pub is_printed_turn : Site → Turn → Bool
is_printed_turn site turn = option_map_or (is_printed_at site 4) turn.lit true

-- turns of packets of the section's origin, which lead to what they reach at their entry
pub record AreRootTurns (site : Site) (tops : List ℕ) (section : Section) (t : Plain Choice) (leaves : List Choice) (nodes : List Node) (turns : List Turn) : Type 0 where
  pub known : All (λ turn. turn.node < length nodes) turns
  pub printed : All (λ turn. is_printed_turn site turn ≡ true) turns
  pub whole : (v : View) → list_any (λ turn. holds_or_none v turn.lit) turns ≡ true
  pub leads : (v : View) (w : Choice) → IsFine tops section v → Leads section.seen (subtree_of leaves nodes) v turns w
      → Reaches section.seen v.packet (branch 0 t v.packet.entry) w
