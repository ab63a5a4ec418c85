-- What is known before the chains of a tree are put, and what holds of them then.
use Rattle.std.specs.Prelude.{◌≡◌, ◌≢◌, ℕ, ◌+◌, ◌≤◌, true, List, length, All}
use Rattle.fws_net.specs.declared.site.Site.{Site}
use Rattle.fws_net.specs.Points.{tops_of}
use Rattle.fws_net.specs.Routes.{IsSound}
use Rattle.fws_ipt.specs.declared.config.IptChain.{IptChain}
use Rattle.fws_ipt.specs.declared.config.IptTable.{IptTable}
use Rattle.fws_ipt.specs.declared.config.IptTable.TheVariants.{Nat}
use Rattle.fws_tree.specs.declared.node.Node.{Node}
use Rattle.fws_tree.specs.declared.node.Node.TheVariants.{Leaf, Cut}
use Rattle.fws_tree.specs.Plain.{Plain}
use Rattle.fws_tree.specs.Shared.{IsShared}
use Rattle.fws_ipt_print.specs.Printable.{is_chain_name}
use Rattle.fws_tree_seen.specs.declared.seen.Seen.{Seen}
use Rattle.fws_tree_seen.specs.Shown.{IsTold}
use Rattle.fws_ipt_put_chains.specs.declared.verdict.Branch.{Branch}
use Rattle.fws_ipt_put_chains.specs.declared.verdict.Verdict.{Verdict}
use Rattle.fws_ipt_put_chains.specs.Blocks.{IsBlock, IsPrintedAct}
use Rattle.fws_ipt_put_chains.specs.Branches.{HasMarkChains, Leads, PartEntries}

-- what is known of a tree, its nodes and the chains behind which its chains are put
pub record IsPlanned (site : Site) (tops : List ℕ) (t : Plain Verdict) (table : IptTable) (front : List ℕ) (seen : Seen) (least : ℕ) (old : List IptChain) (leaves : List Verdict) (nodes : List Node) : Type 0 where
  pub sound : IsSound site
  pub tops_are : tops ≡ tops_of site
  pub told : IsTold seen tops t
  pub low : least ≤ length old
  pub marks : HasMarkChains table least old t
  pub other : table ≢ Nat
  pub plain : is_chain_name front ≡ true
  pub short : length front ≤ 8
  pub shared : IsShared tops t leaves nodes

-- the chains that were put, and the branches that lead into them
pub record ArePut (site : Site) (tops : List ℕ) (t : Plain Verdict) (table : IptTable) (seen : Seen) (least : ℕ) (old new : List IptChain) (branches : List Branch) : Type 0 where
  pub block : IsBlock site table old new
  pub leads : All (Leads tops t seen least (length old) (length new) new) branches
  pub printed : All (λ branch. IsPrintedAct table new branch.go) branches
  pub whole : PartEntries (length site.faces + 1) branches

-- a node that doesn't cut the entry
abbrev pub KeepsEntry : Node → Type 0
KeepsEntry (Leaf n) = Unit {0}
KeepsEntry (Cut f kids) = f ≢ 0
