-- The chains of marks stand where trees look for them.
use Rattle.std.proofs.Common.{◌≡◌, ℕ, zero, suc, ◌+◌, ◌<◌, ◌≤◌, false, ◌&&◌, slice_get, Some, is_none, List, [], ◌∷◌, ◌++◌, length, All, arith, sym, ap, ◌∙◌, subst, length-append}
use Rattle.std.specs.Option.{option_map_or}
use Rattle.fws_box.specs.Sides.{IsWithin}
use Rattle.fws_tree_seen.specs.declared.seen.Seen.TheVariants.{Entered, Routed}
use Rattle.fws_tree_seen.specs.declared.seen.Seen.{Seen}
use Rattle.fws_ipt.specs.declared.config.IptChain.{IptChain}
use Rattle.fws_ipt.specs.declared.config.IptTable.{IptTable}
use Rattle.fws_ipt.specs.declared.config.IptTable.TheVariants.{Filter, Mangle}
use Rattle.fws_ipt.specs.Walk.{is_table}
use Rattle.fws_tree.specs.Plain.{IsReduced, Plain, value}
use Rattle.fws_ipt_put_chains.specs.declared.verdict.Verdict.{Verdict}
use Rattle.fws_ipt_put_chains.specs.declared.verdict.Verdict.TheVariants as verdicts
use Rattle.fws_ipt_put_chains.specs.declared.verdict.Branch.{Branch}
use Rattle.fws_ipt_put_chains.specs.Blocks.{IsBlock, IsPrintedAct}
use Rattle.fws_ipt_put_chains.specs.Branches.{HasMarkChains, Leads, PartEntries}
use Rattle.fws_ipt_put.specs.declared.marks.Mark.{Mark}
use Rattle.fws_net.specs.declared.site.Site.{Site}
use Rattle.fws_net.specs.Points.{tops_of}
use Rattle.fws_ipt_put.specs.declared.chains.Draft.{Draft}
use Rattle.fws_ipt_put.specs.Builtin.{filter_chains, nat_chains}
use Rattle.fws_ipt_put.specs.Drafts.{IsDraft, SetsMarks, begun}
use Rattle.fws_ipt_put.specs.Marks.{mark_chain, mark_chains}
use Rattle.fws_ipt_put.proofs.Leaves.{HasChain, has_chains}
use Rattle.fws_ipt_put.proofs.Lists.{got_below}

marks_got : (n : ℕ) (marks : List Mark) (more : List IptChain) (w : ℕ) → w < length marks → slice_get (mark_chains n marks ++ more) w ≡ Some (mark_chain (n + w))
marks_got n [] more w low = absurd (omega (arith, low))
marks_got n (mark ∷ marks) more zero low = let same : n ≡ n + 0 = omega arith in ap (λ v. Some (mark_chain v)) same
marks_got n (mark ∷ marks) more (suc w) low =
    let same : suc n + w ≡ n + suc w = omega arith in
    marks_got (suc n) marks more w (omega (arith, low)) ∙ ap (λ v. Some (mark_chain v)) same

begun_got : (marks : List Mark) (more : List IptChain) (v : ℕ) → 5 ≤ v → v < length marks + 5 → slice_get (begun marks ++ more) v ≡ Some (mark_chain v)
begun_got marks more zero low high = absurd (omega (arith, low))
begun_got marks more (suc zero) low high = absurd (omega (arith, low))
begun_got marks more (suc (suc zero)) low high = absurd (omega (arith, low))
begun_got marks more (suc (suc (suc zero))) low high = absurd (omega (arith, low))
begun_got marks more (suc (suc (suc (suc zero)))) low high = absurd (omega (arith, low))
begun_got marks more (suc (suc (suc (suc (suc w))))) low high =
    let same : 5 + w ≡ suc (suc (suc (suc (suc w)))) = omega arith in
    marks_got 5 marks more w (omega (arith, high)) ∙ ap (λ v. Some (mark_chain v)) same

pub has_marks : (tops : List ℕ) (t : Plain Verdict) (marks : List Mark) (chains more : List IptChain) → chains ≡ begun marks ++ more → IsReduced tops t → SetsMarks tops (length marks) t
    → HasMarkChains Mangle 5 chains t
has_marks tops t marks chains more are reduced sets = has_chains Mangle 5 chains tops t reduced by_verdict where
  by_verdict : (p : List ℕ) (a : Verdict) → IsWithin tops p → value t p ≡ Some a → HasChain Mangle 5 chains a
  by_verdict p verdicts.Accept within is = tt
  by_verdict p verdicts.Drop within is = tt
  by_verdict p (verdicts.Mark v) within is =
      let low = sets p v within is in
      let got = ap (λ l. slice_get l v) are ∙ begun_got marks more v low.0 low.1 in
      record {
        late = low.0;
        there = got_below chains v (mark_chain v) got;
        rules = ap (λ o. option_map_or (λ (chain : IptChain). chain.rules) o []) got;
        user = ap (λ o. option_map_or (λ (chain : IptChain). is_table Mangle chain.table && is_none chain.policy) o false) got;
      }

pub no_marks : (table : IptTable) (least : ℕ) (chains : List IptChain) (tops : List ℕ) (t : Plain Verdict) → IsReduced tops t → SetsMarks tops 0 t → HasMarkChains table least chains t
no_marks table least chains tops t reduced sets = has_chains table least chains tops t reduced by_verdict where
  by_verdict : (p : List ℕ) (a : Verdict) → IsWithin tops p → value t p ≡ Some a → HasChain table least chains a
  by_verdict p verdicts.Accept within is = tt
  by_verdict p verdicts.Drop within is = tt
  by_verdict p (verdicts.Mark v) within is = let low = sets p v within is in absurd (omega (arith, low))

-- chains that were put one behind the other are a draft
-- chains lead by tops that are the same
pub by_tops : (other tops : List ℕ) (t : Plain Verdict) (seen : Seen) (least before past : ℕ) (chains : List IptChain) (branches : List Branch)
    → other ≡ tops → All (Leads other t seen least before past chains) branches → All (Leads tops t seen least before past chains) branches
by_tops other tops t seen least before past chains branches e h = subst (λ o. All (Leads o t seen least before past chains) branches) e h

pub draft_is : (site : Site) (entering news routed : Plain Verdict) (marks : List Mark) (one two three four five six : List IptChain) (n : ℕ) (known fresh reply : List Branch)
    → one ≡ begun marks → IsBlock site Mangle one two → IsBlock site Mangle two three → four ≡ three ++ nat_chains marks → five ≡ four ++ filter_chains [] [] [] → IsBlock site Filter five six → n ≡ length four
    → All (Leads (tops_of site) entering Entered 5 (length one) (length two) two) known → All (Leads (tops_of site) news Entered 5 (length two) (length three) three) fresh
    → All (Leads (tops_of site) routed Routed (n + 3) (length five) (length six) six) reply
    → All (λ (branch : Branch). IsPrintedAct Mangle two branch.go) known → All (λ (branch : Branch). IsPrintedAct Mangle three branch.go) fresh → All (λ (branch : Branch). IsPrintedAct Filter six branch.go) reply
    → PartEntries (length site.faces + 1) known → PartEntries (length site.faces + 1) fresh → PartEntries (length site.faces + 1) reply
    → IsDraft site entering news routed marks (record { chains = six; filter = n; known = known; fresh = fresh; reply = reply })
draft_is site entering news routed marks one two three four five six n known fresh reply one_is known_block fresh_block four_is five_is reply_block n_is known_lead fresh_lead reply_lead known_acts fresh_acts reply_acts known_parts fresh_parts reply_parts =
    let five_are : five ≡ (three ++ nat_chains marks) ++ filter_chains [] [] [] = five_is ∙ ap (λ l. l ++ filter_chains [] [] []) four_is in
    let long : length five ≡ n + 3 =
    ap length five_is ∙ length-append four (filter_chains [] [] []) ∙ ap (λ m. m + 3) (sym n_is) in
    record {
      with_known = two;
      with_fresh = three;
      known_block = subst (λ l. IsBlock site Mangle l two) one_is known_block;
      fresh_block = fresh_block;
      reply_block = subst (λ l. IsBlock site Filter l six) five_are reply_block;
      filter = n_is ∙ ap length four_is;
      known_lead = subst (λ l. All (Leads (tops_of site) entering Entered 5 (length l) (length two) two) known) one_is known_lead;
      fresh_lead = fresh_lead;
      reply_lead = subst (λ m. All (Leads (tops_of site) routed Routed (n + 3) m (length six) six) reply) long reply_lead;
      known_acts = known_acts;
      fresh_acts = fresh_acts;
      reply_acts = reply_acts;
      known_parts = known_parts;
      fresh_parts = fresh_parts;
      reply_parts = reply_parts;
    }

-- a draft has the chains that get rules
pub draft_long : (site : Site) (entering news routed : Plain Verdict) (marks : List Mark) (draft : Draft) → IsDraft site entering news routed marks draft
    → (draft.filter + 2 < length draft.chains) × (3 < length draft.chains)
draft_long site entering news routed marks draft d =
    let a = ap length d.reply_block.extends in
    let b = length-append ((d.with_fresh ++ nat_chains marks) ++ filter_chains [] [] []) d.reply_block.block in
    let e = length-append (d.with_fresh ++ nat_chains marks) (filter_chains [] [] []) in
    let g = length-append d.with_fresh (nat_chains marks) in
    let h = d.filter in
    (omega (arith, a, b, e, g, h), omega (arith, a, b, e, g, h))
