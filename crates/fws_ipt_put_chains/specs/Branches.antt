-- Chains that decide what a tree decides.
use Rattle.std.specs.Prelude.{◌≡◌, ◌≢◌, ℕ, ◌+◌, ◌≤◌, ◌<◌, Bool, true, List, [], ◌∷◌, ◌++◌, length, All}
use Rattle.std.specs.List.{count_by}
use Rattle.fws_box.specs.Sides.{IsWithin}
use Rattle.fws_box.specs.declared.field.Field.TheVariants as fields
use Rattle.fws_iv.specs.Ivs.{has}
use Rattle.fws_net.specs.declared.packet.Packet.{Packet}
use Rattle.fws_net.specs.declared.site.Site.{Site}
use Rattle.fws_ipt.specs.declared.config.IptChain.{IptChain}
use Rattle.fws_ipt.specs.declared.config.IptGo.TheVariants as acts
use Rattle.fws_ipt.specs.declared.config.IptRule.{IptRule}
use Rattle.fws_ipt.specs.declared.config.IptTable.{IptTable}
use Rattle.fws_ipt.specs.declared.hook.Hook.{Hook}
use Rattle.fws_ipt.specs.declared.passage.ChainEnd.{ChainEnd}
use Rattle.fws_ipt.specs.declared.passage.ChainEnd.TheVariants as ends
use Rattle.fws_ipt.specs.declared.passage.Passage.{Passage}
use Rattle.fws_ipt.specs.Soundness.{is_user_chain}
use Rattle.fws_ipt.specs.Walk.{act, chain_walk, rules_at, with_mark}
use Rattle.fws_tree.specs.Plain.{Plain, value, leaf, cut, Kids, none, kid}
use Rattle.fws_tree_seen.specs.declared.seen.Seen.{Seen}
use Rattle.fws_tree_seen.specs.Shown.{IsSeenAs}
use Rattle.fws_ipt_put_chains.specs.declared.verdict.Branch.{Branch}
use Rattle.fws_ipt_put_chains.specs.declared.verdict.Verdict.{Verdict}
use Rattle.fws_ipt_put_chains.specs.declared.verdict.Verdict.TheVariants.{Accept, Drop, Mark}
use Rattle.std.specs.Prelude.{Some}
use Rattle.fws_box.specs.Fields.{value_of}

-- how a chain is left for a verdict
abbrev pub verdict_end : Verdict → Passage → ChainEnd
verdict_end Accept m = ends.Accepted m
verdict_end Drop m = ends.Dropped
verdict_end (Mark v) m = ends.Accepted (with_mark v m)

-- the rules of the chain that sets a mark: they mark, and accept
abbrev pub mark_rules : ℕ → List IptRule
mark_rules v = record { cond = []; go = acts.Mark v } ∷ record { cond = []; go = acts.Accept } ∷ []

-- the chain of a mark is one of the user's in the table, under the number of the mark, which is least or more
pub record IsMarkChain (table : IptTable) (least : ℕ) (chains : List IptChain) (v : ℕ) : Type 0 where
  pub late : least ≤ v
  pub there : v < length chains
  pub rules : rules_at chains v ≡ mark_rules v
  pub user : is_user_chain table chains v ≡ true

-- among the chains stands the one of each mark that the tree sets
abbrev mutual
  pub HasMarkChains : IptTable → ℕ → List IptChain → Plain Verdict → Type 0
  HasMarkChains table least chains (leaf Accept) = Unit {0}
  HasMarkChains table least chains (leaf Drop) = Unit {0}
  HasMarkChains table least chains (leaf (Mark v)) = IsMarkChain table least chains v
  HasMarkChains table least chains (cut f ks) = HaveMarkChains table least chains ks

  pub HaveMarkChains : IptTable → ℕ → List IptChain → Kids Verdict → Type 0
  HaveMarkChains table least chains none = Unit {0}
  HaveMarkChains table least chains (kid s t ks) = HasMarkChains table least chains t × HaveMarkChains table least chains ks

-- a branch leads a packet to the value that the tree has at each point as which the packet is seen. The walk may have come
-- through chains with numbers below least alone; more chains may be entered than stand between before and past; and further
-- chains may stand behind
abbrev pub Leads : List ℕ → Plain Verdict → Seen → ℕ → ℕ → ℕ → List IptChain → Branch → Type 0
Leads tops t seen least before past chains branch =
    (further : List IptChain) (site : Site) (p : Packet) (is_est : Bool) (hook : Hook) (n : ℕ) (path : List ℕ)
    (next : Passage → ChainEnd) (m : Passage) (x : List ℕ) (verdict : Verdict)
    → past < before + n → All (λ c. c < least) path
    → IsWithin tops x → has branch.entries (value_of x fields.Entry) ≡ true → IsSeenAs seen m.packet x → value t x ≡ Some verdict
    → act (chain_walk (chains ++ further) site p is_est hook n path) next site p hook branch.go m ≡ verdict_end verdict m

-- each entry up to the top lies in the entries of one branch, and those of a branch are some and lie up to the top
pub record PartEntries (top : ℕ) (branches : List Branch) : Type 0 where
  pub once : (e : ℕ) → e ≤ top → count_by (λ branch. has branch.entries e) branches ≡ 1
  pub some : All (λ branch. branch.entries ≢ []) branches
  pub within : (e : ℕ) → All (λ branch. has branch.entries e ≡ true → e ≤ top) branches
