-- Blocks of entries that decide on packets of a node.
use Rattle.std.specs.Prelude.{◌≡◌, ◌⊎◌, ℕ, ◌≤◌, Bool, true, false, Option, Some, List, ◌++◌, slice_get}
use Rattle.std.specs.List.{list_all}
use Rattle.fws_box.specs.Sides.{IsWithin}
use Rattle.fws_net.specs.declared.connection.Kind.{Kind}
use Rattle.fws_net.specs.declared.packet.Packet.{Packet}
use Rattle.fws_net.specs.declared.site.Site.{Site}
use Rattle.fws_net.specs.declared.transit.Transit.{Transit}
use Rattle.fws_net.specs.Points.{tops_of}
use Rattle.fws_ios.specs.declared.config.IosEntry.{IosEntry}
use Rattle.fws_ios.specs.Walk.{permits}
use Rattle.fws_ios_put_entries.specs.declared.path.Path.{Path}
use Rattle.fws_ios_put_entries.specs.declared.side.Side.{Side}
use Rattle.fws_ios_put_entries.specs.Narrowing.{HasAddresses}
use Rattle.fws_ios_put_entries.specs.Paths.{asks, number_of, path_has, IsWritable}
use Rattle.fws_ios_put_entries.specs.Seen.{IsSeenAt, LookSame}
use Rattle.fws_ios_print.specs.Printable.{is_printed_entry}
use Rattle.fws_tree.specs.declared.node.Kid.{Kid}
use Rattle.fws_tree.specs.declared.node.Node.{Node}
use Rattle.fws_tree.specs.declared.node.Node.TheVariants.{Cut}
use Rattle.fws_tree.specs.Plain.{Plain, value}
use Rattle.fws_tree.specs.Shared.{IsShared, subtree_of}
use Rattle.fws_ios_put_lists.specs.FirstMatch.{is_classless, keeps_state}

-- Where packets come

-- a tree with its leaves and nodes
pub record Scene : Type 0 where
  pub tops : List ℕ
  pub tree : Plain Bool
  pub leaves : List Bool
  pub nodes : List Node

abbrev pub scene : List ℕ → Plain Bool → List Bool → List Node → Scene
scene tops tree leaves nodes = record { tops = tops; tree = tree; leaves = leaves; nodes = nodes }

-- the tree of a node
abbrev pub below : Scene → ℕ → Plain Bool
below s n = subtree_of s.leaves s.nodes n

-- the tree is over the points of a site, and its nodes are these
pub record IsPlanned (s : Scene) : Type 0 where
  pub site : Site
  pub tops_are : s.tops ≡ tops_of site
  pub shared : IsShared s.tops s.tree s.leaves s.nodes

-- the packet is seen at a point within the tops
pub record IsPoint (s : Scene) (p : Packet) (x : List ℕ) : Type 0 where
  pub within : IsWithin s.tops x
  pub seen : IsSeenAt p x

-- what is seen at a point comes to the node with a value: the node's tree has the value wherever it looks the same
abbrev pub Comes : Scene → ℕ → List ℕ → Bool → Type 0
Comes s n x b = (y : List ℕ) → IsWithin s.tops y → LookSame x y → value (below s n) y ≡ Some b

-- What lists say

-- a packet of a class that meets a list at a site, in a direction
pub record Meeting : Type 0 where
  pub site : Site
  pub kind : Kind
  pub outward : Bool
  pub transit : Transit

-- what the entries say of it
abbrev pub says : Meeting → List IosEntry → Bool
says g entries = permits g.site g.kind g.outward entries g.transit

-- the block gives the packet this, whatever stands behind it
abbrev pub IsGiven : Meeting → List IosEntry → List IosEntry → Bool → Type 0
IsGiven g block rest b = says g (block ++ rest) ≡ b

-- the packet passes the block by
abbrev pub IsPassed : Meeting → List IosEntry → List IosEntry → Type 0
IsPassed g block rest = says g (block ++ rest) ≡ says g rest

-- Entries of a node

-- entries that are printed, keep state just where they permit and state is wanted, and ask of no connection
pub record AreFine (keep : Bool) (block : List IosEntry) : Type 0 where
  pub printed : list_all is_printed_entry block ≡ true
  pub keeps : list_all (keeps_state keep) block ≡ true
  pub classless : list_all is_classless block ≡ true

-- the entries of packets that come to a node on a path. Other packets pass them by, and so may those whose value is what they fall to
pub record AreNodeEntries (s : Scene) (keep : Bool) (at : ℕ) (path : Path) (falls : Option Bool) (block : List IosEntry) : Type 0 where
  pub fine : AreFine keep block
  pub passes : (g : Meeting) (rest : List IosEntry) → HasAddresses g.transit.packet → path_has path g.transit.packet ≡ false → IsPassed g block rest
  pub decides : (g : Meeting) (rest : List IosEntry) (x : List ℕ) (b : Bool) → IsPoint s g.transit.packet x → path_has path g.transit.packet ≡ true
      → Comes s at x b
      → IsGiven g block rest b ⊎ ((falls ≡ Some b) × IsPassed g block rest)

-- Paths to nodes

-- a path that an entry can have, and which asks nothing of the fields from one on
pub record IsGoodPath (from : ℕ) (path : Path) : Type 0 where
  pub writable : IsWritable path
  pub free : (side : Side) → from ≤ number_of side → asks side path ≡ false

-- a node that cuts no field before this one
abbrev pub CutsFrom : Scene → ℕ → ℕ → Type 0
CutsFrom s n from = (f : ℕ) (kids : List Kid) → slice_get s.nodes n ≡ Some (Cut f kids) → from ≤ f

-- a path on which entries of the node are put: it asks nothing of the fields that are cut there
abbrev pub IsPathTo : Scene → ℕ → Path → Type 0
IsPathTo s n path = (from : ℕ) × IsGoodPath from path × CutsFrom s n from
