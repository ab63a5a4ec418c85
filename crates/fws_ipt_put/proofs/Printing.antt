-- The rules of a policy can be printed.
use Rattle.std.proofs.Common.{◌≡◌, ◌≢◌, ℕ, zero, suc, ◌+◌, ◌-◌, ◌%◌, ◌^◌, ◌<◌, ◌≤◌, Bool, true, false, cond, ◌&&◌, ◌||◌, not, nat_eq, nat_le, nat_lt, Option, Some, None, is_some, List, [], ◌∷◌, length, map, All, arith, refl, sym, ap, ◌∙◌, eq-eqb}
use Rattle.std.proofs.lemmas.Bool.{false≢true, ne_eqb, eqb-true, and_from, le-leb, lt-ltb, ltb-true, ltb-false}
use Rattle.std.proofs.lemmas.List.Elements.{All-head, All-tail}
use Rattle.std.specs.List.{list_all, list_any, range_with_len}
use Rattle.std.specs.Option.{option_map_or}
use Rattle.fws_iv.specs.Prefixes.{IsBlock}
use Rattle.fws_num.specs.declared.prefix.Prefix.{Prefix}
use Rattle.fws_net.specs.declared.condition.Lit.{Lit}
use Rattle.fws_net.specs.declared.condition.Test.TheVariants.{Proto, Tag}
use Rattle.fws_net.specs.declared.outcome.End.{End}
use Rattle.fws_net.specs.declared.site.Site.{Site}
use Rattle.fws_ipt.specs.declared.config.IptChain.{IptChain}
use Rattle.fws_ipt.specs.declared.config.IptGo.{IptGo}
use Rattle.fws_ipt.specs.declared.config.IptGo.TheVariants as acts
use Rattle.fws_ipt.specs.declared.config.IptRule.{IptRule}
use Rattle.fws_ipt.specs.declared.config.IptTable.{IptTable}
use Rattle.fws_ipt.specs.declared.config.IptTable.TheVariants.{Nat}
use Rattle.fws_ipt.specs.declared.hook.Hook.{Hook}
use Rattle.fws_ipt.specs.declared.hook.Hook.TheVariants.{Prerouting, Input, Forward, Output, Postrouting}
use Rattle.fws_ipt.specs.Hooks.{hook_named}
use Rattle.fws_ipt.specs.Soundness.{is_user_chain}
use Rattle.fws_ipt.specs.Spelled.{asks, asks_ports, is_block, is_prefix_set, names_block, tests_dst, tests_src}
use Rattle.fws_ipt.specs.Walk.{hook_name, writes_dst_at, writes_src_at}
use Rattle.fws_ipt_print.specs.Printable.{is_chain_name, is_end, is_printed_act, is_printed_chain, is_printed_literal, is_printed_policy, is_printed_rule, are_different, protocol_leads, shows_receiving, stands_where}
use Rattle.fws_ipt_put_chains.specs.declared.verdict.Branch.{Branch}
use Rattle.fws_ipt_put.specs.declared.marks.Mark.{Mark}
use Rattle.fws_ipt_put.specs.Builtin.{builtin}
use Rattle.fws_ipt_put.specs.Marks.{AreBlocks, FitsEnd, FitsPort, mark_chain, mark_chains, mark_name}
use Rattle.fws_ipt_put.specs.NatRules.{addresses, asked, block_rule, end_rules, lies_in, mark_rules_at, nat_rules, one_if, port_rule, rules_for, whole_rule, writing}
use Rattle.fws_ipt_put.specs.Roots.{arriving_rules, class_rule, entry_rule, entry_rules, go_at, is_same_go, of_class, of_entry, own_rules, sending_rules}
use Rattle.fws_ipt_put.proofs.Closing.{all_joined, list_all_same}
use Rattle.fws_ipt_put.proofs.Lists.{none_is}
use Rattle.fws_ipt_put.proofs.Naming.{mark_named}
use Rattle.fws_ipt_put.proofs.NatMet.{Writes}
use Rattle.fws_ipt_put.proofs.Sizes.{last_fits}

-- Among other chains with the same ones of the user's

pub act_same : (chains others : List IptChain) → ((table : IptTable) (c : ℕ) → is_user_chain table chains c ≡ is_user_chain table others c)
    → (chain : IptChain) (conds : List Lit) (go : IptGo) → is_printed_act chains chain conds go ≡ is_printed_act others chain conds go
act_same chains others same chain conds acts.Accept = refl
act_same chains others same chain conds acts.Drop = refl
act_same chains others same chain conds acts.Return = refl
act_same chains others same chain conds acts.Next = refl
act_same chains others same chain conds (acts.Jump c) = refl
act_same chains others same chain conds (acts.Goto c) = same chain.table c
act_same chains others same chain conds (acts.Mark v) = refl
act_same chains others same chain conds (acts.Source e) = refl
act_same chains others same chain conds acts.Masquerade = refl
act_same chains others same chain conds (acts.Dest e) = refl
act_same chains others same chain conds (acts.Redirect port) = refl
act_same chains others same chain conds (acts.Netmap net) = refl

pub chain_same : (site : Site) (chains others : List IptChain) → ((table : IptTable) (c : ℕ) → is_user_chain table chains c ≡ is_user_chain table others c)
    → (chain : IptChain) → is_printed_chain site chains chain ≡ is_printed_chain site others chain
chain_same site chains others same chain =
    ap (λ b. (is_some chain.policy || is_chain_name chain.name) && is_printed_policy chain.table chain.policy && b)
    (list_all_same (is_printed_rule site chains chain) (is_printed_rule site others chain)
    (λ rule. ap (λ b. are_different rule.cond && protocol_leads rule.cond && list_all (is_printed_literal site (shows_receiving chain) rule.cond) rule.cond && b)
    (act_same chains others same chain rule.cond rule.go)) chain.rules)

-- Chains of marks

pub mark_printed : (site : Site) (chains : List IptChain) (v : ℕ) → v < 2 ^ 32 → is_printed_chain site chains (mark_chain v) ≡ true
mark_printed site chains v small =
    and_from (is_chain_name (mark_name v) && true) (nat_lt v (2 ^ 32) && true)
    (and_from (is_chain_name (mark_name v)) true (mark_named v small) refl)
    (and_from (nat_lt v (2 ^ 32)) true (lt-ltb v (2 ^ 32) small) refl)

pub marks_printed : (site : Site) (chains : List IptChain) (v : ℕ) (marks : List Mark) → v + length marks ≤ 2 ^ 32 → list_all (is_printed_chain site chains) (mark_chains v marks) ≡ true
marks_printed site chains v [] few = refl
marks_printed site chains v (mark ∷ marks) few =
    and_from (is_printed_chain site chains (mark_chain v)) (list_all (is_printed_chain site chains) (mark_chains (suc v) marks))
    (mark_printed site chains v (omega (arith, few))) (marks_printed site chains (suc v) marks (omega (arith, few)))

-- Hooks by their names

hook_is : (hook : Hook) → hook_named (hook_name hook) ≡ Some hook
unfolding hook_named
hook_is Prerouting = refl
hook_is Input = refl
hook_is Forward = refl
hook_is Output = refl
hook_is Postrouting = refl

pub stands_there : (such : Hook → Bool) (table : IptTable) (hook : Hook) (accepts : Bool) (rules : List IptRule) → stands_where such (builtin table hook accepts rules) ≡ such hook
stands_there such table hook accepts rules = ap (λ o. option_map_or such o false) (hook_is hook)

-- Rules for the packets of a class

class_literal : (site : Site) (shown : Bool) (conds : List Lit) (est : Bool) → is_printed_literal site shown conds (of_class est) ≡ true
class_literal site shown conds true = refl
class_literal site shown conds false = refl

entry_literal : (site : Site) (shown : Bool) (conds : List Lit) (e : ℕ) → shown ≡ true → 1 ≤ e → e ≤ length site.faces + 1 → is_printed_literal site shown conds (of_entry e) ≡ true
entry_literal site shown conds e shows low high =
    and_from (shown && (nat_eq e e && nat_le e (length site.faces + 1))) (not (nat_eq e 0 || false))
    (and_from shown (nat_eq e e && nat_le e (length site.faces + 1)) shows
    (and_from (nat_eq e e) (nat_le e (length site.faces + 1)) (eq-eqb e e refl) (le-leb e (length site.faces + 1) high)))
    (ap (λ b. not (b || false)) (ne_eqb e 0 (omega (arith, low))))

module _ (site : Site) (chains : List IptChain) (chain : IptChain) (branches : List Branch) (goes : (e : ℕ) (conds : List Lit) → e ≤ length site.faces + 1 → is_printed_act chains chain conds (go_at branches e) ≡ true) where
  abbrev printed : List IptRule → Bool
  printed rules = list_all (is_printed_rule site chains chain) rules

  abbrev shown : Bool
  shown = shows_receiving chain

  class_printed : (est : Bool) (e : ℕ) → e ≤ length site.faces + 1 → is_printed_rule site chains chain (class_rule est (go_at branches e)) ≡ true
  class_printed est e high =
      let conds = of_class est ∷ [] in
      and_from (is_printed_literal site shown conds (of_class est) && true) (is_printed_act chains chain conds (go_at branches e))
      (and_from (is_printed_literal site shown conds (of_class est)) true (class_literal site shown conds est) refl) (goes e conds high)

  entry_printed : (est : Bool) (e : ℕ) → shown ≡ true → 1 ≤ e → e ≤ length site.faces + 1 → is_printed_rule site chains chain (entry_rule est e (go_at branches e)) ≡ true
  entry_printed est e shows low high =
      let conds = of_class est ∷ of_entry e ∷ [] in
      and_from (is_printed_literal site shown conds (of_class est) && (is_printed_literal site shown conds (of_entry e) && true)) (is_printed_act chains chain conds (go_at branches e))
      (and_from (is_printed_literal site shown conds (of_class est)) (is_printed_literal site shown conds (of_entry e) && true) (class_literal site shown conds est)
      (and_from (is_printed_literal site shown conds (of_entry e)) true (entry_literal site shown conds e shows low high) refl))
      (goes e conds high)

  own_printed : (left_out : Bool) (r : IptRule) → is_printed_rule site chains chain r ≡ true → printed (cond left_out [] (r ∷ [])) ≡ true
  own_printed true r h = refl
  own_printed false r h = and_from (is_printed_rule site chains chain r) true h refl

  entries_printed : (est : Bool) (usual : IptGo) (n : ℕ) → shown ≡ true → n ≤ length site.faces + 1 → printed (entry_rules est branches usual n) ≡ true
  entries_printed est usual zero shows high = refl
  entries_printed est usual (suc n) shows high =
      all_joined (is_printed_rule site chains chain) (entry_rules est branches usual n) (own_rules est branches usual (suc n))
      (entries_printed est usual n shows (omega (arith, high)))
      (own_printed (is_same_go (go_at branches (suc n)) usual) (entry_rule est (suc n) (go_at branches (suc n))) (entry_printed est (suc n) shows (omega arith) high))

  pub arriving_printed : (est : Bool) (usual n : ℕ) → shown ≡ true → usual ≤ length site.faces + 1 → n ≤ length site.faces + 1 → printed (arriving_rules est branches usual n) ≡ true
  arriving_printed est usual n shows usual_high high =
      all_joined (is_printed_rule site chains chain) (entry_rules est branches (go_at branches usual) n) (class_rule est (go_at branches usual) ∷ [])
      (entries_printed est (go_at branches usual) n shows high)
      (and_from (is_printed_rule site chains chain (class_rule est (go_at branches usual))) true (class_printed est usual usual_high) refl)

  pub sending_printed : (est : Bool) → printed (sending_rules est branches) ≡ true
  sending_printed est = and_from (is_printed_rule site chains chain (class_rule est (go_at branches 0))) true (class_printed est 0 (omega arith)) refl

-- Rules of nat

either_place : (here behind b : Bool) → (b ≡ true → here ≡ true) → (b ≡ false → behind ≡ true) → (here || behind) ≡ true
either_place true behind b h k = refl
either_place false behind true h k = absurd (false≢true (h refl))
either_place false behind false h k = k refl

any_between : (test : ℕ → Bool) (from count n : ℕ) → from ≤ n → n < from + count → test n ≡ true → list_any test (range_with_len from count) ≡ true
any_between test from zero n low high h = absurd (omega arith)
any_between test from (suc count) n low high h =
    either_place (test from) (list_any test (range_with_len (from + 1) count)) (nat_eq from n) (λ e. ap test (eqb-true from n e) ∙ h)
    (λ e.
    let apart : from ≢ n = λ same. false≢true (sym e ∙ eq-eqb from n same) in
    let above : from + 1 ≤ n = omega (arith, apart) in
    let below : n < from + 1 + count = omega arith in
    any_between test (from + 1) count n above below h)

block_is : (block : Prefix) → IsBlock block → is_block block.len (addresses block) ≡ true
block_is block sound =
    let last = block.addr + (2 ^ (32 - block.len) - 1) in
    and_from (nat_eq (block.addr % 2 ^ (32 - block.len)) 0) (nat_eq last last) (eq-eqb (block.addr % 2 ^ (32 - block.len)) 0 sound.cleared) (eq-eqb last last refl)

prefix_is : (len : ℕ) (block : Prefix) → IsBlock block → len ≤ block.len → is_prefix_set len (addresses block) ≡ true
prefix_is len block sound low =
    let short : block.len ≤ 32 = sound.short in
    let below : block.len < len + (33 - len) = omega (arith, low, short) in
    any_between (λ n. is_block n (addresses block)) len (33 - len) block.len low below (block_is block sound)

module _ (site : Site) (chains : List IptChain) (hook : Hook) (rules : List IptRule) (v : ℕ) (small : v < 2 ^ 32) where
  abbrev chain : IptChain
  chain = builtin Nat hook true rules

  abbrev nat_printed : List IptRule → Bool
  nat_printed rs = list_all (is_printed_rule site chains chain) rs

  abbrev shows : Bool
  shows = shows_receiving chain

  tag_literal : (conds : List Lit) → is_printed_literal site shows conds (asked (Tag v)) ≡ true
  tag_literal conds = lt-ltb v (2 ^ 32) small

  -- an end is written where it may be
  writing_printed : (on_source : Bool) → Writes on_source hook → (conds : List Lit) (e : End) → is_end conds e ≡ true → is_printed_act chains chain conds (writing on_source e) ≡ true
  writing_printed true here conds e h =
      and_from (stands_where writes_src_at chain) (is_end conds e) (stands_there writes_src_at Nat hook true rules ∙ here.1) h
  writing_printed false here conds e h =
      and_from (stands_where writes_dst_at chain) (is_end conds e) (stands_there writes_dst_at Nat hook true rules ∙ here) h

  -- a whole address, with what is asked of its port
  end_fits : (conds : List Lit) (e : End) (o : Option ℕ) → e.port ≡ o → e.len ≡ 32 → e.addr < 2 ^ 32 → option_map_or (λ port. nat_le port 65535 && asks_ports conds) o true ≡ true → is_end conds e ≡ true
  end_fits conds e o port len fits asked =
      and_from (nat_eq e.len 32 && nat_lt e.addr (2 ^ 32)) (option_map_or (λ port. nat_le port 65535 && asks_ports conds) e.port true)
      (and_from (nat_eq e.len 32) (nat_lt e.addr (2 ^ 32)) (eq-eqb e.len 32 len) (lt-ltb e.addr (2 ^ 32) fits))
      (ap (λ x. option_map_or (λ port. nat_le port 65535 && asks_ports conds) x true) port ∙ asked)

  whole_printed : (on_source : Bool) → Writes on_source hook → (e : End) → e.len ≡ 32 → e.addr < 2 ^ 32 → e.port ≡ None → is_printed_rule site chains chain (whole_rule on_source v e) ≡ true
  whole_printed on_source here e len fits port =
      let conds = asked (Tag v) ∷ [] in
      and_from (is_printed_literal site shows conds (asked (Tag v)) && true) (is_printed_act chains chain conds (writing on_source e))
      (and_from (is_printed_literal site shows conds (asked (Tag v))) true (tag_literal conds) refl)
      (writing_printed on_source here conds e (end_fits conds e None port len fits refl))

  abbrev port_conds : ℕ → List Lit
  port_conds proto = asked (Proto (record { lo = proto; hi = proto } ∷ [])) ∷ asked (Tag v) ∷ []

  port_printed : (on_source : Bool) → Writes on_source hook → (e : End) (port proto : ℕ) → e.port ≡ Some port → port ≤ 65535 → e.len ≡ 32 → e.addr < 2 ^ 32
      → is_printed_literal site shows (port_conds proto) (asked (Proto (record { lo = proto; hi = proto } ∷ []))) ≡ true → asks_ports (port_conds proto) ≡ true
      → is_printed_rule site chains chain (port_rule on_source v e proto) ≡ true
  port_printed on_source here e port proto is low len fits literal asks =
      let conds = port_conds proto in
      and_from (is_printed_literal site shows conds (asked (Proto (record { lo = proto; hi = proto } ∷ []))) && (is_printed_literal site shows conds (asked (Tag v)) && true))
      (is_printed_act chains chain conds (writing on_source e))
      (and_from (is_printed_literal site shows conds (asked (Proto (record { lo = proto; hi = proto } ∷ [])))) (is_printed_literal site shows conds (asked (Tag v)) && true) literal
      (and_from (is_printed_literal site shows conds (asked (Tag v))) true (tag_literal conds) refl))
      (writing_printed on_source here conds e
      (end_fits conds e (Some port) is len fits (and_from (nat_le port 65535) (asks_ports conds) (le-leb port 65535 low) asks)))

  one_printed : (wanted : Bool) (r : IptRule) → is_printed_rule site chains chain r ≡ true → nat_printed (one_if wanted r) ≡ true
  one_printed true r h = and_from (is_printed_rule site chains chain r) true h refl
  one_printed false r h = refl

  abbrev block_conds : Bool → Prefix → List Lit
  block_conds on_source block = asked (lies_in on_source block) ∷ asked (Tag v) ∷ []

  names_it : (on_source : Bool) (len : ℕ) (block : Prefix) → Writes on_source hook → is_prefix_set len (addresses block) ≡ true → names_block hook len (block_conds on_source block) ≡ true
  names_it true len block here h =
      let cs = block_conds true block in
      ap (λ b. cond b (asks (tests_dst (is_prefix_set len)) cs) (cond (writes_src_at hook) (asks (tests_src (is_prefix_set len)) cs) false)) here.0
      ∙ ap (λ b. cond b (asks (tests_src (is_prefix_set len)) cs) false) here.1
      ∙ ap (λ b. b || false) h
  names_it false len block here h =
      let cs = block_conds false block in
      ap (λ b. cond b (asks (tests_dst (is_prefix_set len)) cs) (cond (writes_src_at hook) (asks (tests_src (is_prefix_set len)) cs) false)) here
      ∙ ap (λ b. b || false) h

  range_fits : (block : Prefix) → IsBlock block → (nat_le block.addr (block.addr + (2 ^ (32 - block.len) - 1)) && nat_le (block.addr + (2 ^ (32 - block.len) - 1)) (2 ^ 32 - 1)) ≡ true
  range_fits block sound =
      let fits = last_fits block.addr block.len (2 ^ (32 - block.len)) refl sound.short sound.fits sound.cleared in
      and_from (nat_le block.addr (block.addr + (2 ^ (32 - block.len) - 1))) (nat_le (block.addr + (2 ^ (32 - block.len) - 1)) (2 ^ 32 - 1))
      (le-leb block.addr (block.addr + (2 ^ (32 - block.len) - 1)) (omega arith)) (le-leb (block.addr + (2 ^ (32 - block.len) - 1)) (2 ^ 32 - 1) (omega (arith, fits)))

  range_literal : (on_source : Bool) (block : Prefix) (conds : List Lit) → IsBlock block → is_printed_literal site shows conds (asked (lies_in on_source block)) ≡ true
  range_literal true block conds sound = range_fits block sound
  range_literal false block conds sound = range_fits block sound

  tests_apart : (on_source : Bool) (block : Prefix) → (are_different (block_conds on_source block) && protocol_leads (block_conds on_source block)) ≡ true
  tests_apart true block = refl
  tests_apart false block = refl

  block_printed : (on_source : Bool) → Writes on_source hook → (e : End) → e.addr < 2 ^ 32 → (block : Prefix) → IsBlock block → e.len ≤ block.len
      → is_printed_rule site chains chain (block_rule on_source v e block) ≡ true
  block_printed on_source here e fits block sound low =
      let conds = block_conds on_source block in
      let len_low : 1 ≤ e.len = e.len_low in
      let len_high : e.len ≤ 32 = e.len_high in
      and_from (are_different conds && protocol_leads conds && (is_printed_literal site shows conds (asked (lies_in on_source block)) && (is_printed_literal site shows conds (asked (Tag v)) && true)))
      (is_printed_act chains chain conds (acts.Netmap (record { addr = e.addr; len = e.len })))
      (and_from (are_different conds && protocol_leads conds) (is_printed_literal site shows conds (asked (lies_in on_source block)) && (is_printed_literal site shows conds (asked (Tag v)) && true)) (tests_apart on_source block)
      (and_from (is_printed_literal site shows conds (asked (lies_in on_source block))) (is_printed_literal site shows conds (asked (Tag v)) && true) (range_literal on_source block conds sound)
      (and_from (is_printed_literal site shows conds (asked (Tag v))) true (tag_literal conds) refl)))
      (and_from (nat_le 1 e.len && nat_le e.len 32 && nat_eq (e.addr % 2 ^ (32 - e.len)) 0 && nat_lt e.addr (2 ^ 32)) (stands_where (λ h. names_block h e.len conds) chain)
      (and_from (nat_le 1 e.len && nat_le e.len 32 && nat_eq (e.addr % 2 ^ (32 - e.len)) 0) (nat_lt e.addr (2 ^ 32))
      (and_from (nat_le 1 e.len && nat_le e.len 32) (nat_eq (e.addr % 2 ^ (32 - e.len)) 0)
      (and_from (nat_le 1 e.len) (nat_le e.len 32) (le-leb 1 e.len len_low) (le-leb e.len 32 len_high))
      (eq-eqb (e.addr % 2 ^ (32 - e.len)) 0 e.clear))
      (lt-ltb e.addr (2 ^ 32) fits))
      (stands_there (λ h. names_block h e.len conds) Nat hook true rules ∙ names_it on_source e.len block here (prefix_is e.len block sound low)))

  blocks_printed : (on_source : Bool) → Writes on_source hook → (e : End) → e.addr < 2 ^ 32 → (blocks : List Prefix) → All (λ (block : Prefix). IsBlock block × (e.len ≤ block.len)) blocks
      → nat_printed (map (block_rule on_source v e) blocks) ≡ true
  blocks_printed on_source here e fits [] sound = refl
  blocks_printed on_source here e fits (block ∷ blocks) sound =
      let first = All-head (λ (block : Prefix). IsBlock block × (e.len ≤ block.len)) block blocks sound in
      and_from (is_printed_rule site chains chain (block_rule on_source v e block)) (nat_printed (map (block_rule on_source v e) blocks))
      (block_printed on_source here e fits block first.0 first.1)
      (blocks_printed on_source here e fits blocks (All-tail (λ (block : Prefix). IsBlock block × (e.len ≤ block.len)) block blocks sound))

  whole_len : (e : End) → nat_lt e.len 32 ≡ false → e.len ≡ 32
  whole_len e h = let high : e.len ≤ 32 = e.len_high in let low : 32 ≤ e.len = ltb-false e.len 32 h in omega (arith, high, low)

  address_printed : (on_source : Bool) → Writes on_source hook → (e : End) → e.addr < 2 ^ 32 → e.port ≡ None → (blocks : List Prefix) → All (λ (block : Prefix). IsBlock block × (e.len ≤ block.len)) blocks
      → (short : Bool) → nat_lt e.len 32 ≡ short → nat_printed (cond short (map (block_rule on_source v e) blocks) (whole_rule on_source v e ∷ [])) ≡ true
  address_printed on_source here e fits port blocks sound true is = blocks_printed on_source here e fits blocks sound
  address_printed on_source here e fits port blocks sound false is =
      and_from (is_printed_rule site chains chain (whole_rule on_source v e)) true (whole_printed on_source here e (whole_len e is) fits port) refl

  port_len : (e : End) (port : ℕ) → e.port ≡ Some port → e.len ≡ 32
  port_len e port is = by_len (nat_lt e.len 32) refl where
    by_len : (b : Bool) → nat_lt e.len 32 ≡ b → e.len ≡ 32
    by_len true h = absurd (none_is (sym (e.port_on_whole (ltb-true e.len 32 h)) ∙ is))
    by_len false h = whole_len e h

  rules_printed : (on_source : Bool) → Writes on_source hook → (mark : Mark) (blocks : List Prefix) (e : End) → e.addr < 2 ^ 32
      → All (λ (block : Prefix). IsBlock block × (e.len ≤ block.len)) blocks → (port : Option ℕ) → e.port ≡ port → FitsPort port → nat_printed (rules_for on_source v mark blocks e port) ≡ true
  rules_printed on_source here mark blocks e fits sound None is low = address_printed on_source here e fits is blocks sound (nat_lt e.len 32) refl
  rules_printed on_source here mark blocks e fits sound (Some port) is low =
      all_joined (is_printed_rule site chains chain) (one_if mark.tcp (port_rule on_source v e 6)) (one_if mark.udp (port_rule on_source v e 17))
      (one_printed mark.tcp (port_rule on_source v e 6) (port_printed on_source here e port 6 is low (port_len e port is) fits refl refl))
      (one_printed mark.udp (port_rule on_source v e 17) (port_printed on_source here e port 17 is low (port_len e port is) fits refl refl))

  end_printed : (on_source : Bool) → Writes on_source hook → (mark : Mark) (blocks : List Prefix) (end : Option End) → FitsEnd end → AreBlocks end blocks → nat_printed (end_rules on_source v mark blocks end) ≡ true
  end_printed on_source here mark blocks None fits sound = refl
  end_printed on_source here mark blocks (Some e) fits sound = rules_printed on_source here mark blocks e fits.0 (sound e refl) e.port refl fits.1

printed_if : (site : Site) (chains : List IptChain) (chain : IptChain) (wanted : Bool) (rules : List IptRule) → list_all (is_printed_rule site chains chain) rules ≡ true
    → list_all (is_printed_rule site chains chain) (cond wanted rules []) ≡ true
printed_if site chains chain true rules h = h
printed_if site chains chain false rules h = refl

-- what is known of the ends of a mark
pub record FitsMark (mark : Mark) : Type 0 where
  pub dst_fits : FitsEnd mark.rewrite.dst
  pub src_fits : FitsEnd mark.rewrite.src
  pub dst_blocks : AreBlocks mark.rewrite.dst mark.dst_blocks
  pub src_blocks : AreBlocks mark.rewrite.src mark.src_blocks

mark_at_hook : (site : Site) (chains : List IptChain) (hook : Hook) (rules : List IptRule) (v : ℕ) → v < 2 ^ 32 → (mark : Mark) → FitsMark mark
    → list_all (is_printed_rule site chains (builtin Nat hook true rules)) (mark_rules_at hook v mark) ≡ true
mark_at_hook site chains Prerouting rules v small mark fits =
    printed_if site chains (builtin Nat Prerouting true rules) mark.arrives _ (end_printed site chains Prerouting rules v small false refl mark mark.dst_blocks mark.rewrite.dst fits.dst_fits fits.dst_blocks)
mark_at_hook site chains Input rules v small mark fits =
    printed_if site chains (builtin Nat Input true rules) mark.arrives _ (end_printed site chains Input rules v small true (refl, refl) mark mark.src_blocks mark.rewrite.src fits.src_fits fits.src_blocks)
mark_at_hook site chains Forward rules v small mark fits = refl
mark_at_hook site chains Output rules v small mark fits =
    printed_if site chains (builtin Nat Output true rules) mark.sends _ (end_printed site chains Output rules v small false refl mark mark.dst_blocks mark.rewrite.dst fits.dst_fits fits.dst_blocks)
mark_at_hook site chains Postrouting rules v small mark fits =
    end_printed site chains Postrouting rules v small true (refl, refl) mark mark.src_blocks mark.rewrite.src fits.src_fits fits.src_blocks

pub nat_rules_printed : (site : Site) (chains : List IptChain) (hook : Hook) (rules : List IptRule) (v : ℕ) (marks : List Mark) → v + length marks ≤ 2 ^ 32 → All FitsMark marks
    → list_all (is_printed_rule site chains (builtin Nat hook true rules)) (nat_rules hook v marks) ≡ true
nat_rules_printed site chains hook rules v [] few fits = refl
nat_rules_printed site chains hook rules v (mark ∷ marks) few fits =
    all_joined (is_printed_rule site chains (builtin Nat hook true rules)) (mark_rules_at hook v mark) (nat_rules hook (suc v) marks)
    (mark_at_hook site chains hook rules v (omega (arith, few)) mark (All-head FitsMark mark marks fits))
    (nat_rules_printed site chains hook rules (suc v) marks (omega (arith, few)) (All-tail FitsMark mark marks fits))

-- the built-in chains of nat
pub nat_chain_printed : (site : Site) (chains : List IptChain) (hook : Hook) (marks : List Mark) → 5 + length marks ≤ 2 ^ 32 → All FitsMark marks
    → is_printed_chain site chains (builtin Nat hook true (nat_rules hook 5 marks)) ≡ true
nat_chain_printed site chains hook marks few fits = nat_rules_printed site chains hook (nat_rules hook 5 marks) 5 marks few fits
