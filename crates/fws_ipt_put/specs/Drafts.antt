-- The chains of a policy, as they are put one behind the other.
use Rattle.std.specs.Prelude.{◌≡◌, ℕ, ◌+◌, ◌≤◌, ◌<◌, true, false, Some, List, [], ◌++◌, length, All, slice_set}
use Rattle.fws_box.specs.Sides.{IsWithin}
use Rattle.fws_net.specs.declared.site.Site.{Site}
use Rattle.fws_net.specs.Points.{tops_of}
use Rattle.fws_tree.specs.Plain.{Plain, value}
use Rattle.fws_tree_seen.specs.declared.seen.Seen.TheVariants.{Entered, Routed}
use Rattle.fws_ipt.specs.declared.config.IptChain.{IptChain}
use Rattle.fws_ipt.specs.declared.config.IptRule.{IptRule}
use Rattle.fws_ipt.specs.declared.config.IptTable.TheVariants.{Filter, Mangle}
use Rattle.fws_ipt.specs.declared.hook.Hook.TheVariants.{Prerouting, Input, Forward, Output}
use Rattle.fws_ipt_put_chains.specs.declared.verdict.Verdict.{Verdict}
use Rattle.fws_ipt_put_chains.specs.declared.verdict.Verdict.TheVariants as verdicts
use Rattle.fws_ipt_put_chains.specs.Blocks.{IsBlock, IsPrintedAct}
use Rattle.fws_ipt_put_chains.specs.Branches.{Leads, PartEntries}
use Rattle.fws_ipt_put.specs.declared.marks.Mark.{Mark}
use Rattle.fws_ipt_put.specs.declared.chains.Draft.{Draft}
use Rattle.fws_ipt_put.specs.Builtin.{builtin, filter_chains, mangle_chains, nat_chains}
use Rattle.fws_ipt_put.specs.Marks.{mark_chains}
use Rattle.fws_ipt_put.specs.Roots.{AreArriving, AreEntering, sending_rules}

-- each mark that the tree sets is one of n, the first of which is 5
abbrev pub SetsMarks : List ℕ → ℕ → Plain Verdict → Type 0
SetsMarks tops n t = (p : List ℕ) (v : ℕ) → IsWithin tops p → value t p ≡ Some (verdicts.Mark v) → (5 ≤ v) × (v < n + 5)

-- the chains of mangle ahead of those of trees
abbrev pub begun : List Mark → List IptChain
begun marks = mangle_chains [] [] ++ mark_chains 5 marks

-- chains in their order, where the built-in ones for which trees decide have no rules yet
pub record IsDraft (site : Site) (entering news routed : Plain Verdict) (marks : List Mark) (draft : Draft) : Type 0 where
  pub with_known : List IptChain
  pub with_fresh : List IptChain
  pub known_block : IsBlock site Mangle (begun marks) with_known
  pub fresh_block : IsBlock site Mangle with_known with_fresh
  pub reply_block : IsBlock site Filter ((with_fresh ++ nat_chains marks) ++ filter_chains [] [] []) draft.chains
  pub filter : draft.filter ≡ length (with_fresh ++ nat_chains marks)
  pub known_lead : All (Leads (tops_of site) entering Entered 5 (length (begun marks)) (length with_known) with_known) draft.known
  pub fresh_lead : All (Leads (tops_of site) news Entered 5 (length with_known) (length with_fresh) with_fresh) draft.fresh
  pub reply_lead : All (Leads (tops_of site) routed Routed (draft.filter + 3) (draft.filter + 3) (length draft.chains) draft.chains) draft.reply
  pub known_acts : All (λ branch. IsPrintedAct Mangle with_known branch.go) draft.known
  pub fresh_acts : All (λ branch. IsPrintedAct Mangle with_fresh branch.go) draft.fresh
  pub reply_acts : All (λ branch. IsPrintedAct Filter draft.chains branch.go) draft.reply
  pub known_parts : PartEntries (length site.faces + 1) draft.known
  pub fresh_parts : PartEntries (length site.faces + 1) draft.fresh
  pub reply_parts : PartEntries (length site.faces + 1) draft.reply

-- the rules of the built-in chains for which trees decide
pub record AreRules (site : Site) (draft : Draft) (arriving sending delivering forwarding sent : List IptRule) : Type 0 where
  pub entering : AreEntering draft.known draft.fresh (length site.faces + 1) arriving
  pub host : sending ≡ sending_rules true draft.known ++ sending_rules false draft.fresh
  pub input : AreArriving true draft.reply (length site.faces + 1) delivering
  pub forward : AreArriving true draft.reply (length site.faces + 1) forwarding
  pub output : sent ≡ sending_rules true draft.reply

-- chains with these rules in their places
abbrev pub filled : Draft → List IptRule → List IptRule → List IptRule → List IptRule → List IptRule → List IptChain
filled draft arriving sending delivering forwarding sent =
    slice_set (slice_set (slice_set (slice_set (slice_set draft.chains 0 (builtin Mangle Prerouting false arriving)) 3 (builtin Mangle Output false sending))
    draft.filter (builtin Filter Input true delivering)) (draft.filter + 1) (builtin Filter Forward true forwarding)) (draft.filter + 2) (builtin Filter Output true sent)

-- the chains of a draft with all rules
pub record IsFilled (site : Site) (draft : Draft) (chains : List IptChain) : Type 0 where
  pub arriving : List IptRule
  pub sending : List IptRule
  pub delivering : List IptRule
  pub forwarding : List IptRule
  pub sent : List IptRule
  pub rules : AreRules site draft arriving sending delivering forwarding sent
  pub are : chains ≡ filled draft arriving sending delivering forwarding sent
