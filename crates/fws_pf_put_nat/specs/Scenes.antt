-- For which packets a list of translations is made, and where they come in its tree.
use Rattle.std.specs.Prelude.{◌≡◌, ◌⊎◌, ℕ, ◌≤◌, ◌<◌, Bool, true, false, Some, None, List, length, slice_get}
use Rattle.fws_box.specs.Sides.{IsWithin}
use Rattle.fws_box.specs.declared.field.Field.TheVariants as fields
use Rattle.fws_net.specs.declared.outcome.Outcome.{Outcome}
use Rattle.fws_net.specs.declared.outcome.Outcome.TheVariants.{Accept}
use Rattle.fws_net.specs.declared.outcome.Rewrite.{Rewrite}
use Rattle.fws_net.specs.declared.packet.Packet.{Packet}
use Rattle.fws_net.specs.declared.site.Site.{Site}
use Rattle.fws_net.specs.Points.{tops_of}
use Rattle.fws_tree_seen.specs.declared.seen.Seen.TheVariants.{Entered}
use Rattle.fws_tree_seen.specs.Reached.{IsTopped, Reaches}
use Rattle.fws_tree_seen.specs.Shown.{IsSeenAs, IsTold}
use Rattle.fws_tree.specs.declared.node.Kid.{Kid}
use Rattle.fws_tree.specs.declared.node.Node.{Node}
use Rattle.fws_tree.specs.declared.node.Node.TheVariants.{Cut}
use Rattle.fws_tree.specs.Plain.{Plain, branch, value}
use Rattle.fws_tree.specs.Shared.{IsShared, subtree_of}
use Rattle.fws_pf_put_nat.specs.declared.ends.Ends.{Ends}
use Rattle.fws_pf_put_nat.specs.Ends.{AreEnds, IsRoot}
use Rattle.fws_pf_put_nat.specs.Translations.{end_of, AgreeBefore, IsMet, KeepsPortsOutward, WritesOneEnd, WritesPortsOfProtocols}
use Rattle.fws_box.specs.Fields.{value_of}

-- For which packets lists are made

-- a tree with its nodes and their states and ends, the pass for which a list is made, and the node at which it begins
pub record Scene : Type 0 where
  pub site : Site
  pub tops : List ℕ
  pub tree : Plain Outcome
  pub leaves : List Outcome
  pub nodes : List Node
  pub states : List ℕ
  pub outward : Bool
  pub ends : List Ends
  pub start : ℕ

abbrev pub scene : Site → List ℕ → Plain Outcome → List Outcome → List Node → List ℕ → Bool → List Ends → ℕ → Scene
scene site tops tree leaves nodes states outward ends start =
    record { site = site; tops = tops; tree = tree; leaves = leaves; nodes = nodes; states = states; outward = outward; ends = ends; start = start }

-- the tree of a node
abbrev pub below : Scene → ℕ → Plain Outcome
below s n = subtree_of s.leaves s.nodes n

-- a packet that meets the list
pub record IsFine (s : Scene) (p : Packet) : Type 0 where
  pub topped : IsTopped s.tops Entered p
  pub met : IsMet s.outward s.tops p.entry

-- a node that cuts no field before this one
abbrev pub CutsFrom : Scene → ℕ → ℕ → Type 0
CutsFrom s n b = (f : ℕ) (kids : List Kid) → slice_get s.nodes n ≡ Some (Cut f kids) → b ≤ f

-- what is known of a scene
pub record IsPlanned (s : Scene) : Type 0 where
  pub tops_are : s.tops ≡ tops_of s.site
  pub shared : IsShared s.tops s.tree s.leaves s.nodes
  pub told : IsTold Entered s.tops s.tree
  pub size : length s.states ≡ length s.nodes
  pub ports : WritesPortsOfProtocols s.tops s.tree
  pub one : WritesOneEnd s.outward s.tops s.tree
  pub bare : KeepsPortsOutward s.outward s.tops s.tree
  pub ends : AreEnds s.outward s.leaves s.nodes s.ends
  -- packets that meet the list have at the node where it begins what they have in the tree
  pub begins : s.start < length s.nodes
  pub inward : s.outward ≡ false → below s s.start ≡ s.tree
  pub host : s.outward ≡ true → branch 0 (below s s.start) 0 ≡ branch 0 s.tree 0
  pub keeps : s.outward ≡ true → CutsFrom s s.start 1

-- Where packets come

-- what the packet is accepted with writes no end
abbrev pub GetsNoEnd : Scene → Packet → Type 0
GetsNoEnd s p = (w : Rewrite) → Reaches Entered p (branch 0 s.tree p.entry) (Accept w) → end_of s.outward w ≡ None

-- the packet comes to the node: what it reaches from there on it reaches in the tree. It is seen as a point, and the tree has the
-- node's values at points that agree with this one before a field
pub record IsCome (s : Scene) (n : ℕ) (p : Packet) : Type 0 where
  pub reached : (w : Outcome) → Reaches Entered p (branch 0 (below s n) p.entry) w → Reaches Entered p (branch 0 s.tree p.entry) w
  pub point : List ℕ
  pub within : IsWithin s.tops point
  pub entry : value_of point fields.Entry ≡ p.entry
  pub sees : IsSeenAs Entered p point
  pub bound : ℕ
  pub early : CutsFrom s n bound
  pub same : (y : List ℕ) → IsWithin s.tops y → AgreeBefore bound point y → value s.tree y ≡ value (below s n) y

-- packets get no end at the node
abbrev pub IsRootNode : Scene → ℕ → Type 0
IsRootNode s n = (e : Ends) → slice_get s.ends n ≡ Some e → IsRoot e

-- the packet comes to the node, or neither gets an end
abbrev pub Meets : Scene → ℕ → Packet → Type 0
Meets s n p = IsCome s n p ⊎ (IsRootNode s n × GetsNoEnd s p)
