-- A walk through a built-in chain that is found.
use Rattle.std.proofs.Common.{◌≡◌, ℕ, suc, ◌<◌, Bool, true, slice_get, get_or, Option, Some, List, [], ◌∷◌, length, ap, ◌∙◌}
use Rattle.std.specs.Option.{option_map_or}
use Rattle.fws_box.specs.Sides.{IsWithin}
use Rattle.fws_iv.specs.Ivs.{has}
use Rattle.fws_net.specs.declared.packet.Packet.{Packet}
use Rattle.fws_net.specs.declared.site.Site.{Site}
use Rattle.fws_net.specs.Points.{tops_of}
use Rattle.fws_tree.specs.Plain.{Plain, value}
use Rattle.fws_tree_seen.specs.declared.seen.Seen.{Seen}
use Rattle.fws_tree_seen.specs.Shown.{IsSeenAs}
use Rattle.fws_ipt.specs.declared.config.IptChain.{IptChain}
use Rattle.fws_ipt.specs.declared.config.IptRule.{IptRule}
use Rattle.fws_ipt.specs.declared.config.IptTable.{IptTable}
use Rattle.fws_ipt.specs.declared.hook.Hook.{Hook}
use Rattle.fws_ipt.specs.declared.passage.ChainEnd.{ChainEnd}
use Rattle.fws_ipt.specs.declared.passage.Passage.{Passage}
use Rattle.fws_ipt.specs.Walk.{act, builtin_from, builtin_walk, by_policy, chain_walk, policy_at, rules_walk}
use Rattle.fws_ipt_put_chains.specs.declared.verdict.Branch.{Branch}
use Rattle.fws_ipt_put_chains.specs.declared.verdict.Verdict.{Verdict}
use Rattle.fws_ipt_put_chains.specs.Branches.{verdict_end}
use Rattle.fws_ipt_put.specs.Builtin.{builtin}

-- the built-in chain of the table at the hook has this number, policy and rules
pub record Stands (chains : List IptChain) (table : IptTable) (hook : Hook) (accepts : Bool) (rules : List IptRule) (c : ℕ) : Type 0 where
  pub found : builtin_from 0 table hook chains ≡ Some c
  pub there : slice_get chains c ≡ Some (builtin table hook accepts rules)

-- its walk is that of its rules, and its policy decides at their end
pub stood : (chains : List IptChain) (table : IptTable) (hook : Hook) (accepts : Bool) (rules : List IptRule) (c n : ℕ)
    → Stands chains table hook accepts rules c → length chains ≡ suc n → (site : Site) (p : Packet) (is_est : Bool) (m : Passage)
    → builtin_walk chains site p is_est hook (builtin_from 0 table hook chains) m
    ≡ by_policy accepts (rules_walk (chain_walk chains site p is_est hook n (c ∷ [])) site p is_est hook rules m)
stood chains table hook accepts rules c n stands len site p is_est m =
    ap (λ o. builtin_walk chains site p is_est hook o m) stands.found
    ∙ ap (λ k. by_policy (policy_at chains c) (chain_walk chains site p is_est hook k [] c m)) len
    ∙ ap (λ (o : Option IptChain). by_policy (option_map_or (λ (chain : IptChain). option_map_or (λ (b : Bool). b) chain.policy true) o true)
    (rules_walk (chain_walk chains site p is_est hook n (c ∷ [])) site p is_est hook (option_map_or (λ (chain : IptChain). chain.rules) o []) m)) stands.there

-- a branch leads packets to what the tree holds, in a walk through all chains, of which there are n and one more
abbrev pub LeadsIn : Site → List IptChain → ℕ → Seen → Plain Verdict → ℕ → Branch → Type 0
LeadsIn site chains n seen t least branch =
    (p : Packet) (is_est : Bool) (hook : Hook) (c : ℕ) (next : Passage → ChainEnd) (m : Passage) (x : List ℕ) (verdict : Verdict)
    → c < least → IsWithin (tops_of site) x → IsSeenAs seen m.packet x → value t x ≡ Some verdict → has branch.entries (get_or x 0 0) ≡ true
    → act (chain_walk chains site p is_est hook n (c ∷ [])) next site p hook branch.go m ≡ verdict_end verdict m
