-- What is known of the chains of a policy.
use Rattle.std.proofs.Common.{◌≡◌, ℕ, suc, ◌+◌, ◌<◌, Bool, true, false, cond, ◌&&◌, Some, List, [], ◌++◌, length, map, All}
use Rattle.fws_net.specs.declared.connection.Rec.{Rec}
use Rattle.fws_net.specs.declared.outcome.Rewrite.{Rewrite}
use Rattle.fws_net.specs.declared.outcome.Outcome.TheVariants.{Drop, Accept}
use Rattle.fws_net.specs.declared.packet.Packet.{Packet}
use Rattle.fws_net.specs.declared.site.Site.{Site}
use Rattle.fws_net.specs.Points.{tops_of}
use Rattle.fws_net.specs.Transits.{nothing_written}
use Rattle.fws_tree.specs.declared.tables.Tables.{Tables}
use Rattle.fws_tree.specs.Plain.{Plain, value}
use Rattle.fws_tree_seen.specs.declared.seen.Seen.TheVariants.{Entered, Routed}
use Rattle.fws_tree_seen.specs.declared.seen.Seen.{Seen}
use Rattle.fws_tree_seen.specs.SightLaws.{HasImages}
use Rattle.fws_ipt.specs.declared.config.IptChain.{IptChain}
use Rattle.fws_ipt.specs.declared.config.IptTable.TheVariants.{Filter, Nat, Mangle}
use Rattle.fws_ipt.specs.declared.hook.Hook.TheVariants.{Prerouting, Input, Forward, Output, Postrouting}
use Rattle.fws_ipt_put_chains.specs.declared.verdict.Branch.{Branch}
use Rattle.fws_ipt_put_chains.specs.declared.verdict.Verdict.{Verdict}
use Rattle.fws_ipt_put_chains.specs.Branches.{PartEntries}
use Rattle.fws_place.specs.Meaning.{IsPairOf, est_of, point_of}
use Rattle.fws_place.specs.Pairs.{IsLost}
use Rattle.fws_ipt_put.specs.declared.marks.Mark.{Mark}
use Rattle.fws_ipt_put.specs.Marks.{HasRewrites, IsMarkOf, passing, verdict_of}
use Rattle.fws_ipt_put.specs.NatRules.{nat_rules}
use Rattle.fws_ipt_put.specs.Roots.{arriving_rules, sending_rules}
use Rattle.fws_ipt_put.proofs.Standing.{LeadsIn, Stands}

-- branches that lead to what a tree holds, one for each entry
pub record Root (site : Site) (chains : List IptChain) (n : ℕ) (seen : Seen) (t : Plain Verdict) (least : ℕ) : Type 0 where
  pub branches : List Branch
  pub lead : All (LeadsIn site chains n seen t least) branches
  pub parts : PartEntries (length site.faces + 1) branches

-- what the trees tell of the packets of a site
pub record Known (site : Site) (tables : Tables) : Type 0 where
  pub packet : Plain Bool
  pub behind : Plain Bool
  pub entering : Plain Verdict
  pub news : Plain Verdict
  pub routed : Plain Verdict
  pub rewrites : List Rewrite
  pub marks : List Mark
  pub entering_made : HasImages (tops_of site) passing packet entering
  pub news_made : HasImages (tops_of site) (verdict_of rewrites) tables.fresh.1 news
  pub routed_made : HasImages (tops_of site) passing behind routed
  pub told : (p : Packet) (r : Rec) (b c : Bool) → IsPairOf site p r → (IsLost site p r → ⊥)
      → value packet (point_of p r) ≡ Some b → value behind (point_of p r) ≡ Some c → est_of tables p r ≡ cond (b && c) (Accept nothing_written) Drop
  pub lost : (p : Packet) (r : Rec) → IsPairOf site p r → IsLost site p r → est_of tables p r ≡ Drop
  pub has_rewrites : HasRewrites (tops_of site) tables.fresh.1 rewrites
  pub marked : map (λ (mark : Mark). mark.rewrite) marks ≡ rewrites
  pub marks_known : All (IsMarkOf (tops_of site) tables.fresh.1) marks

-- the chains of a policy stand at their places
pub record Plan (site : Site) (tables : Tables) (k : Known site tables) (chains : List IptChain) : Type 0 where
  pub n : ℕ
  pub size : length chains ≡ suc n
  pub least : ℕ
  pub known : Root site chains n Entered k.entering 5
  pub fresh : Root site chains n Entered k.news 5
  pub reply : Root site chains n Routed k.routed least
  pub usual : ℕ
  pub usual_new : ℕ
  pub usual_in : ℕ
  pub usual_forward : ℕ
  pub mangle_prerouting : Stands chains Mangle Prerouting false
      (arriving_rules true known.branches usual (length site.faces + 1) ++ arriving_rules false fresh.branches usual_new (length site.faces + 1)) 0
  pub mangle_input : Stands chains Mangle Input true [] 1
  pub mangle_forward : Stands chains Mangle Forward true [] 2
  pub mangle_output : Stands chains Mangle Output false (sending_rules true known.branches ++ sending_rules false fresh.branches) 3
  pub mangle_postrouting : Stands chains Mangle Postrouting true [] 4
  pub nat_prerouting_at : ℕ
  pub nat_prerouting : Stands chains Nat Prerouting true (nat_rules Prerouting 5 k.marks) nat_prerouting_at
  pub nat_input_at : ℕ
  pub nat_input : Stands chains Nat Input true (nat_rules Input 5 k.marks) nat_input_at
  pub nat_output_at : ℕ
  pub nat_output : Stands chains Nat Output true (nat_rules Output 5 k.marks) nat_output_at
  pub nat_postrouting_at : ℕ
  pub nat_postrouting : Stands chains Nat Postrouting true (nat_rules Postrouting 5 k.marks) nat_postrouting_at
  pub filter_input_at : ℕ
  pub filter_input : Stands chains Filter Input true (arriving_rules true reply.branches usual_in (length site.faces + 1)) filter_input_at
  pub filter_input_low : filter_input_at < least
  pub filter_forward_at : ℕ
  pub filter_forward : Stands chains Filter Forward true (arriving_rules true reply.branches usual_forward (length site.faces + 1)) filter_forward_at
  pub filter_forward_low : filter_forward_at < least
  pub filter_output_at : ℕ
  pub filter_output : Stands chains Filter Output true (sending_rules true reply.branches) filter_output_at
  pub filter_output_low : filter_output_at < least
