-- Lists of rules that decide what a tree decides.
use Rattle.std.specs.Prelude.{◌≡◌, ◌⊎◌, ℕ, ◌≤◌, ◌<◌, Bool, true, false, ◌&&◌, ◌||◌, not, nat_eq, nat_le, nat_lt, Option, Some, None, List, ◌++◌, All}
use Rattle.std.specs.List.{list_all}
use Rattle.std.specs.Option.{option_map_or}
use Rattle.fws_box.specs.Sides.{IsWithin}
use Rattle.fws_box.specs.declared.field.Field.TheVariants as fields
use Rattle.fws_net.specs.declared.condition.Lit.{Lit}
use Rattle.fws_net.specs.declared.connection.Kind.{Kind}
use Rattle.fws_net.specs.declared.packet.Packet.{Packet}
use Rattle.fws_net.specs.declared.site.Site.{Site}
use Rattle.fws_net.specs.Connections.{is_est}
use Rattle.fws_ipfw.specs.declared.config.IpfwAct.{IpfwAct}
use Rattle.fws_ipfw.specs.declared.config.IpfwAct.TheVariants as acts
use Rattle.fws_ipfw.specs.declared.config.IpfwConfig.{IpfwConfig}
use Rattle.fws_ipfw.specs.declared.config.IpfwNat.{IpfwNat}
use Rattle.fws_ipfw.specs.declared.config.IpfwRule.{IpfwRule}
use Rattle.fws_ipfw.specs.declared.config.IpfwTag.{IpfwTag}
use Rattle.fws_ipfw.specs.declared.config.IpfwTag.TheVariants as tags
use Rattle.fws_ipfw.specs.declared.pass.Pass.{Pass}
use Rattle.fws_ipfw.specs.RuleText.{allows}
use Rattle.fws_ipfw.specs.Walk.{rules_walk, step_of, stepped, tagged}
use Rattle.fws_ipfw_print.specs.Printable.{is_printed_rule}
use Rattle.fws_tree_seen.specs.Shown.{IsSeenAs}
use Rattle.fws_tree.specs.Plain.{Plain, value}
use Rattle.fws_ipfw_put_rules.specs.declared.choice.Choice.{Choice}
use Rattle.fws_ipfw_put_rules.specs.declared.choice.Choice.TheVariants.{Deny, Allow, Skip}
use Rattle.fws_ipfw_put_rules.specs.declared.choice.Origin.{Origin}
use Rattle.fws_ipfw_put_rules.specs.declared.choice.Origin.TheVariants.{Arriving, Host}
use Rattle.fws_ipfw_put_rules.specs.declared.choice.Section.{Section}
use Rattle.fws_box.specs.Fields.{value_of}

-- Choices

-- what the rule of a choice does
abbrev pub act_of : Choice → IpfwAct
act_of Deny = acts.Deny
act_of (Allow tag) = acts.Allow
act_of (Skip n tag) = acts.Skip n

abbrev pub tag_for : Option ℕ → IpfwTag
tag_for None = tags.Nothing
tag_for (Some n) = tags.Add n

-- what the rule of a choice does to tags
abbrev pub tag_of : Choice → IpfwTag
tag_of Deny = tags.Nothing
tag_of (Allow tag) = tag_for tag
tag_of (Skip n tag) = tag_for tag

-- the rule of a choice
abbrev pub rule_of : ℕ → List Lit → Choice → IpfwRule
rule_of number cond choice =
    record { number = number; cond = cond; act = act_of choice; tag = tag_of choice; keep = allows (act_of choice) }

abbrev pub is_tag : Option ℕ → Bool
is_tag tag = option_map_or (λ n. nat_lt 0 n && nat_le n 65534) tag true

-- a rule with this number can make the choice: it skips forward, and tags are numbers from 1 to 65534
abbrev pub fits_at : ℕ → Choice → Bool
fits_at number Deny = true
fits_at number (Allow tag) = is_tag tag
fits_at number (Skip n tag) = nat_lt number n && nat_le n 65534 && is_tag tag

-- Trees

-- a rule with this number can make each choice of the tree
abbrev pub FitsAt : List ℕ → ℕ → Plain Choice → Type 0
FitsAt tops number t = (p : List ℕ) (choice : Choice) → IsWithin tops p → value t p ≡ Some choice → fits_at number choice ≡ true

-- no choice of the tree allows a packet: all others leave packets of connections as they are
abbrev pub NeverAllows : List ℕ → Plain Choice → Type 0
NeverAllows tops t = (p : List ℕ) (choice : Choice) → IsWithin tops p → value t p ≡ Some choice → allows (act_of choice) ≡ false

-- Lists

-- the packet is of this origin
abbrev pub is_of : Origin → Packet → Bool
is_of Arriving p = not (nat_eq p.entry 0)
is_of Host p = nat_eq p.entry 0

-- the rules of the list do with a packet of a class what the tree says, at whatever number they are entered, up to theirs, and
-- whatever stands behind them under greater numbers. They see the packet as a point
abbrev pub Decides : Site → List ℕ → Section → Plain Choice → List IpfwRule → Type 0
Decides site tops section t block =
    (c : IpfwConfig) (p : Packet) (k : Kind) (rest : List IpfwRule) (to : ℕ) (m : Pass) (x : List ℕ) (choice : Choice)
    → to ≤ section.number → All (λ r. section.number < r.number) rest
    → (is_est k ≡ false) ⊎ NeverAllows tops t
    → is_of section.origin m.transit.packet ≡ true → value_of x fields.Entry ≡ m.transit.packet.entry
    → IsWithin tops x → IsSeenAs section.seen m.transit.packet x → value t x ≡ Some choice
    → rules_walk c site p k section.outward (block ++ rest) to m
    ≡ stepped (rules_walk c site p k section.outward rest)
    (step_of c site p k section.outward (act_of choice) (record m { transit = tagged (tag_of choice) m.transit }))

-- on the other pass the rules of the list let a packet of a class go by
abbrev pub LetsBy : Site → List ℕ → Section → Plain Choice → List IpfwRule → Type 0
LetsBy site tops section t block =
    (c : IpfwConfig) (p : Packet) (k : Kind) (rest : List IpfwRule) (to : ℕ) (m : Pass)
    → to ≤ section.number → All (λ r. section.number < r.number) rest
    → (is_est k ≡ false) ⊎ NeverAllows tops t
    → rules_walk c site p k (not section.outward) (block ++ rest) to m ≡ rules_walk c site p k (not section.outward) rest to m

-- a rule allows packets only to keep state, and translates none
abbrev pub is_plain : IpfwRule → Bool
is_plain r = plain_act r.act && (not (allows r.act) || r.keep)
  where
    plain_act : IpfwAct → Bool
    plain_act (acts.Nat n) = false
    plain_act _ = true

-- the rules of a list for a tree
pub record IsList (site : Site) (tops : List ℕ) (section : Section) (t : Plain Choice) (block : List IpfwRule) : Type 0 where
  pub numbered : All (λ r. r.number ≡ section.number) block
  pub printed : (nats : List IpfwNat) → list_all (is_printed_rule site nats) block ≡ true
  pub plain : list_all is_plain block ≡ true
  pub decides : Decides site tops section t block
  pub lets_by : LetsBy site tops section t block
