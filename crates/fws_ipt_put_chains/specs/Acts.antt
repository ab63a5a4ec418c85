-- What is known of the acts of nodes.
use Rattle.std.specs.Prelude.{◌≡◌, ℕ, ◌<◌, Some, List, [], ◌∷◌, ◌++◌, length, slice_get, All}
use Rattle.fws_net.specs.declared.site.Site.{Site}
use Rattle.fws_net.specs.Points.{tops_of}
use Rattle.fws_ipt.specs.declared.config.IptChain.{IptChain}
use Rattle.fws_ipt.specs.declared.config.IptGo.{IptGo}
use Rattle.fws_ipt.specs.declared.config.IptGo.TheVariants as goes
use Rattle.fws_ipt.specs.declared.config.IptTable.{IptTable}
use Rattle.fws_tree.specs.declared.node.Kid.{Kid}
use Rattle.fws_tree.specs.declared.node.Node.{Node}
use Rattle.fws_tree.specs.declared.node.Node.TheVariants.{Leaf, Cut}
use Rattle.fws_tree.specs.Shared.{subtree_of}
use Rattle.fws_tree_seen.specs.declared.field.PacketField.{PacketField}
use Rattle.fws_tree_seen.specs.declared.seen.Seen.{Seen}
use Rattle.fws_tree_seen.specs.Cuts.{PartValues}
use Rattle.fws_tree_seen.specs.Fields.{top_of}
use Rattle.fws_tree_seen.specs.Shown.{seen_field}
use Rattle.fws_ipt_put_chains.specs.declared.coming.Coming.{Coming}
use Rattle.fws_ipt_put_chains.specs.declared.verdict.Branch.{Branch}
use Rattle.fws_ipt_put_chains.specs.declared.verdict.Verdict.{Verdict}
use Rattle.fws_ipt_put_chains.specs.declared.verdict.Verdict.TheVariants.{Accept, Drop, Mark}
use Rattle.fws_ipt_put_chains.specs.Blocks.{IsPrintedAct}
use Rattle.fws_ipt_put_chains.specs.Comings.{coming_at}
use Rattle.fws_ipt_put_chains.specs.Reached.{Decides}
use Rattle.fws_ipt_put_chains.specs.Rules.{act_at, IsCutChain}

-- the act of a leaf
abbrev pub leaf_act : Verdict → IptGo
leaf_act Accept = goes.Accept
leaf_act Drop = goes.Drop
leaf_act (Mark v) = goes.Goto v

-- a cut of which rules can be made, behind so many acts
pub record IsFitCut (seen : Seen) (count f : ℕ) (kids : List Kid) : Type 0 where
  pub some : 0 < length kids
  pub parted : (field : PacketField) → seen_field seen f ≡ Some field → PartValues (top_of field) kids
  pub known : All (λ kid. kid.node < count) kids

-- a node of which an act can be made
abbrev pub IsFit : Seen → List Verdict → ℕ → Node → Type 0
IsFit seen leaves count (Leaf n) = n < length leaves
IsFit seen leaves count (Cut f kids) = IsFitCut seen count f kids

-- behind the chains stands the one of a cut, and the act enters it
pub record IsCutPut (table : IptTable) (seen : Seen) (f : ℕ) (coming : Coming) (acts : List IptGo) (kids : List Kid) (old new : List IptChain) (go : IptGo) : Type 0 where
  pub chain : IptChain
  pub extends : new ≡ old ++ chain ∷ []
  pub enters : go ≡ goes.Goto (length old)
  pub is : IsCutChain table (length old) seen f coming acts kids chain

-- the act of a node, and the chain that it enters
abbrev pub IsNodePut : IptTable → Seen → List Verdict → Coming → List IptGo → Node → List IptChain → List IptChain → IptGo → Type 0
IsNodePut table seen leaves coming acts (Leaf n) old new go = (new ≡ old) × ((verdict : Verdict) → slice_get leaves n ≡ Some verdict → go ≡ leaf_act verdict)
IsNodePut table seen leaves coming acts (Cut f kids) old new go = IsCutPut table seen f coming acts kids old new go

-- the acts decide as the trees of their nodes do, and can be printed
pub record AreActs (site : Site) (seen : Seen) (table : IptTable) (least before : ℕ) (chains : List IptChain) (comings : List Coming) (leaves : List Verdict) (nodes : List Node) (acts : List IptGo) : Type 0 where
  pub decides : (k : ℕ) → k < length acts → Decides (tops_of site) seen least before chains (coming_at comings k) (subtree_of leaves nodes k) (act_at acts k)
  pub printed : (k : ℕ) → k < length acts → IsPrintedAct table chains (act_at acts k)

-- the branch of a kid of a cut of the entry
abbrev pub branch_of : List IptGo → Kid → Branch
branch_of acts kid = record { entries = kid.set; go = act_at acts kid.node }
