-- The chains of a filled draft, in their order.
use Rattle.std.proofs.Common.{◌≡◌, ℕ, zero, suc, ◌+◌, Bool, true, false, cond, ◌&&◌, ◌||◌, slice_get, slice_set, Option, Some, None, is_some, List, [], ◌∷◌, ◌++◌, length, All, arith, refl, sym, ap, ◌∙◌, append_assoc, zero-add, add-zero}
use Rattle.std.proofs.lemmas.Bool.{false≢true}
use Rattle.std.proofs.lemmas.List.Elements.{All-head, All-tail}
use Rattle.std.specs.List.{list_any}
use Rattle.std.specs.Str.{bytes_eq}
use Rattle.fws_ipt.specs.declared.config.IptChain.{IptChain}
use Rattle.fws_ipt.specs.declared.config.IptRule.{IptRule}
use Rattle.fws_ipt.specs.declared.config.IptTable.{IptTable}
use Rattle.fws_ipt.specs.declared.config.IptTable.TheVariants.{Filter, Nat, Mangle}
use Rattle.fws_ipt.specs.declared.hook.Hook.{Hook}
use Rattle.fws_ipt.specs.declared.hook.Hook.TheVariants.{Prerouting, Input, Forward, Output, Postrouting}
use Rattle.fws_ipt.specs.Walk.{builtin_from, hook_name, is_table, stands_at}
use Rattle.fws_ipt_put.specs.declared.chains.Draft.{Draft}
use Rattle.fws_ipt_put.specs.declared.marks.Mark.{Mark}
use Rattle.fws_ipt_put.specs.Builtin.{builtin, filter_chains, mangle_chains, nat_chains}
use Rattle.fws_ipt_put.specs.Drafts.{filled}
use Rattle.fws_ipt_put.specs.Marks.{mark_chains}
use Rattle.fws_ipt_put.specs.NatRules.{nat_rules}
use Rattle.fws_ipt_put.proofs.Filling.{AreRefilled, both_refilled, builtin_refilled, same_refilled, set_behind}
use Rattle.fws_ipt_put.proofs.Standing.{Stands}

-- chains of the user's alone
abbrev pub AreUsers : List IptChain → Type 0
AreUsers chains = All (λ (chain : IptChain). chain.policy ≡ None) chains

pub marks_are_users : (v : ℕ) (marks : List Mark) → AreUsers (mark_chains v marks)
marks_are_users v [] k d below = absurd (omega (arith, below))
marks_are_users v (mark ∷ marks) zero d below = refl
marks_are_users v (mark ∷ marks) (suc k) d below = marks_are_users (suc v) marks k d (omega (arith, below))

none_last : (a b : Bool) → (a && b && false) ≡ false
none_last true true = refl
none_last true false = refl
none_last false b = refl

-- none of them stands at a hook
users_stand : (table : IptTable) (hook : Hook) (xs : List IptChain) → AreUsers xs → list_any (stands_at table hook) xs ≡ false
users_stand table hook [] users = refl
users_stand table hook (x ∷ xs) users =
    let here : stands_at table hook x ≡ false =
    ap (λ (o : Option Bool). is_table table x.table && bytes_eq x.name (hook_name hook) && is_some o) (All-head (λ (chain : IptChain). chain.policy ≡ None) x xs users)
    ∙ none_last (is_table table x.table) (bytes_eq x.name (hook_name hook)) in
    ap (λ b. b || list_any (stands_at table hook) xs) here ∙ users_stand table hook xs (All-tail (λ (chain : IptChain). chain.policy ≡ None) x xs users)

none_step : (a b d : Bool) → (a || b) ≡ false → (b ≡ false → d ≡ false) → (a || d) ≡ false
none_step true b d h later = absurd (false≢true (sym h))
none_step false b d h later = later h

pub none_stand : (table : IptTable) (hook : Hook) (xs ys : List IptChain) → list_any (stands_at table hook) xs ≡ false → list_any (stands_at table hook) ys ≡ false
    → list_any (stands_at table hook) (xs ++ ys) ≡ false
none_stand table hook [] ys first second = second
none_stand table hook (x ∷ xs) ys first second =
    none_step (stands_at table hook x) (list_any (stands_at table hook) xs) (list_any (stands_at table hook) (xs ++ ys)) first (λ none. none_stand table hook xs ys none second)

found_step : (table : IptTable) (hook : Hook) (x : IptChain) (rest : List IptChain) (n : ℕ) (found : Option ℕ) (a : Bool) → stands_at table hook x ≡ a → (b : Bool) → (a || b) ≡ false
    → (b ≡ false → builtin_from (suc n) table hook rest ≡ found) → builtin_from n table hook (x ∷ rest) ≡ found
found_step table hook x rest n found true is b h later = absurd (false≢true (sym h))
found_step table hook x rest n found false is b h later = ap (λ a. cond a (Some n) (builtin_from (suc n) table hook rest)) is ∙ later h

-- a built-in chain is found behind others, none of which is at its place
found_behind : (table : IptTable) (hook : Hook) (xs : List IptChain) (chain : IptChain) (ys : List IptChain) (n : ℕ) → list_any (stands_at table hook) xs ≡ false
    → stands_at table hook chain ≡ true → builtin_from n table hook (xs ++ chain ∷ ys) ≡ Some (n + length xs)
found_behind table hook [] chain ys n none here =
    let same : n ≡ n + 0 = omega arith in
    ap (λ b. cond b (Some n) (builtin_from (suc n) table hook ys)) here ∙ ap Some same
found_behind table hook (x ∷ xs) chain ys n none here =
    let same : suc n + length xs ≡ n + suc (length xs) = omega arith in
    found_step table hook x (xs ++ chain ∷ ys) n (Some (n + suc (length xs))) (stands_at table hook x) refl (list_any (stands_at table hook) xs) none
    (λ others. found_behind table hook xs chain ys (suc n) others here ∙ ap Some same)

got_behind : (xs : List IptChain) (chain : IptChain) (ys : List IptChain) → slice_get (xs ++ chain ∷ ys) (length xs) ≡ Some chain
got_behind [] chain ys = refl
got_behind (x ∷ xs) chain ys = got_behind xs chain ys

pub stands_behind : (chains : List IptChain) (table : IptTable) (hook : Hook) (accepts : Bool) (rules : List IptRule) (xs ys : List IptChain)
    → list_any (stands_at table hook) xs ≡ false → stands_at table hook (builtin table hook accepts rules) ≡ true
    → chains ≡ xs ++ builtin table hook accepts rules ∷ ys → Stands chains table hook accepts rules (length xs)
stands_behind chains table hook accepts rules xs ys none here are = record {
  found = ap (builtin_from 0 table hook) are ∙ found_behind table hook xs (builtin table hook accepts rules) ys 0 none here ∙ ap Some (zero-add (length xs));
  there = ap (λ l. slice_get l (length xs)) are ∙ got_behind xs (builtin table hook accepts rules) ys;
}

-- The chains in their order

module _ (marks : List Mark) (known fresh reply : List IptChain) where
  -- ahead of nat
  abbrev pub front : List IptRule → List IptRule → List IptChain
  front arriving sending = ((mangle_chains arriving sending ++ mark_chains 5 marks) ++ known) ++ fresh

  -- ahead of filter
  abbrev pub ahead : List IptRule → List IptRule → List IptChain
  ahead arriving sending = front arriving sending ++ nat_chains marks

  abbrev pub laid : List IptRule → List IptRule → List IptRule → List IptRule → List IptRule → List IptChain
  laid arriving sending delivering forwarding sent = (ahead arriving sending ++ filter_chains delivering forwarding sent) ++ reply

  module _ (arriving sending delivering forwarding sent : List IptRule) where
    -- a filled draft
    pub filled_is : (draft : Draft) → draft.chains ≡ laid [] [] [] [] [] → draft.filter ≡ length (ahead [] [])
        → filled draft arriving sending delivering forwarding sent ≡ laid arriving sending delivering forwarding sent
    filled_is draft chains filter =
        let pre = builtin Mangle Prerouting false arriving in
        let out = builtin Mangle Output false sending in
        let in_chain = builtin Filter Input true delivering in
        let through = builtin Filter Forward true forwarding in
        let host = builtin Filter Output true sent in
        let empty_forward = builtin Filter Forward true [] in
        let empty_output = builtin Filter Output true [] in
        let many : draft.filter ≡ length (ahead arriving sending) = filter in
        let first = ap (λ l. slice_set (slice_set l 0 pre) 3 out) chains in
        let second = ap (λ l. slice_set l draft.filter in_chain) first
        ∙ set_behind (ahead arriving sending) (filter_chains [] [] []) reply 0 in_chain (filter_chains delivering [] []) refl draft.filter (many ∙ sym (add-zero (length (ahead arriving sending)))) in
        let third = ap (λ l. slice_set l (draft.filter + 1) through) second
        ∙ set_behind (ahead arriving sending) (filter_chains delivering [] []) reply 1 through (filter_chains delivering forwarding []) refl (draft.filter + 1) (ap (λ n. n + 1) many) in
        ap (λ l. slice_set l (draft.filter + 2) host) third
        ∙ set_behind (ahead arriving sending) (filter_chains delivering forwarding []) reply 2 host (filter_chains delivering forwarding sent) refl (draft.filter + 2) (ap (λ n. n + 2) many)

    -- it is the draft but for rules of built-in chains
    pub laid_refilled : AreRefilled (laid arriving sending delivering forwarding sent) (laid [] [] [] [] [])
    laid_refilled =
        both_refilled (ahead arriving sending ++ filter_chains delivering forwarding sent) (ahead [] [] ++ filter_chains [] [] []) reply reply
        (both_refilled (ahead arriving sending) (ahead [] []) (filter_chains delivering forwarding sent) (filter_chains [] [] [])
        (both_refilled (front arriving sending) (front [] []) (nat_chains marks) (nat_chains marks)
        (both_refilled ((mangle_chains arriving sending ++ mark_chains 5 marks) ++ known) ((mangle_chains [] [] ++ mark_chains 5 marks) ++ known) fresh fresh
        (both_refilled (mangle_chains arriving sending ++ mark_chains 5 marks) (mangle_chains [] [] ++ mark_chains 5 marks) known known
        (both_refilled (mangle_chains arriving sending) (mangle_chains [] []) (mark_chains 5 marks) (mark_chains 5 marks) (
          builtin_refilled Mangle Prerouting false arriving [],
          (
            builtin_refilled Mangle Input true [] [],
            (
              builtin_refilled Mangle Forward true [] [],
              (builtin_refilled Mangle Output false sending [], (builtin_refilled Mangle Postrouting true [] [], tt)),
            ),
          ),
        )
        (same_refilled (mark_chains 5 marks)))
        (same_refilled known))
        (same_refilled fresh))
        (same_refilled (nat_chains marks)))
        (builtin_refilled Filter Input true delivering [], (builtin_refilled Filter Forward true forwarding [], (builtin_refilled Filter Output true sent [], tt))))
        (same_refilled reply)

    abbrev all : List IptChain
    all = laid arriving sending delivering forwarding sent

    -- Built-in chains at their places

    front_none : (table : IptTable) (hook : Hook) → AreUsers known → AreUsers fresh → list_any (stands_at table hook) (mangle_chains arriving sending) ≡ false
        → list_any (stands_at table hook) (front arriving sending) ≡ false
    front_none table hook known_users fresh_users none =
        none_stand table hook ((mangle_chains arriving sending ++ mark_chains 5 marks) ++ known) fresh
        (none_stand table hook (mangle_chains arriving sending ++ mark_chains 5 marks) known
        (none_stand table hook (mangle_chains arriving sending) (mark_chains 5 marks) none (users_stand table hook (mark_chains 5 marks) (marks_are_users 5 marks)))
        (users_stand table hook known known_users))
        (users_stand table hook fresh fresh_users)

    pub from_nat : all ≡ front arriving sending ++ (nat_chains marks ++ (filter_chains delivering forwarding sent ++ reply))
    from_nat =
        append_assoc (ahead arriving sending) (filter_chains delivering forwarding sent) reply
        ∙ append_assoc (front arriving sending) (nat_chains marks) (filter_chains delivering forwarding sent ++ reply)

    from_filter : all ≡ ahead arriving sending ++ (filter_chains delivering forwarding sent ++ reply)
    from_filter = append_assoc (ahead arriving sending) (filter_chains delivering forwarding sent) reply

    pub mangle_prerouting : Stands all Mangle Prerouting false arriving 0
    mangle_prerouting = record { found = refl; there = refl }

    pub mangle_input : Stands all Mangle Input true [] 1
    mangle_input = record { found = refl; there = refl }

    pub mangle_forward : Stands all Mangle Forward true [] 2
    mangle_forward = record { found = refl; there = refl }

    pub mangle_output : Stands all Mangle Output false sending 3
    mangle_output = record { found = refl; there = refl }

    pub mangle_postrouting : Stands all Mangle Postrouting true [] 4
    mangle_postrouting = record { found = refl; there = refl }

    module _ (known_users : AreUsers known) (fresh_users : AreUsers fresh) where
      abbrev rest : List IptChain
      rest = filter_chains delivering forwarding sent ++ reply

      abbrev at_pre : IptChain
      at_pre = builtin Nat Prerouting true (nat_rules Prerouting 5 marks)

      abbrev at_in : IptChain
      at_in = builtin Nat Input true (nat_rules Input 5 marks)

      abbrev at_out : IptChain
      at_out = builtin Nat Output true (nat_rules Output 5 marks)

      abbrev at_post : IptChain
      at_post = builtin Nat Postrouting true (nat_rules Postrouting 5 marks)

      abbrev here : List IptChain
      here = front arriving sending

      pub nat_prerouting : Stands all Nat Prerouting true (nat_rules Prerouting 5 marks) (length here)
      nat_prerouting = stands_behind all Nat Prerouting true (nat_rules Prerouting 5 marks) here (at_in ∷ at_out ∷ at_post ∷ rest)
          (front_none Nat Prerouting known_users fresh_users refl) refl from_nat

      pub nat_input : Stands all Nat Input true (nat_rules Input 5 marks) (length (here ++ at_pre ∷ []))
      nat_input = stands_behind all Nat Input true (nat_rules Input 5 marks) (here ++ at_pre ∷ []) (at_out ∷ at_post ∷ rest)
          (none_stand Nat Input here (at_pre ∷ []) (front_none Nat Input known_users fresh_users refl) refl) refl
          (from_nat ∙ sym (append_assoc here (at_pre ∷ []) (at_in ∷ at_out ∷ at_post ∷ rest)))

      pub nat_output : Stands all Nat Output true (nat_rules Output 5 marks) (length (here ++ at_pre ∷ at_in ∷ []))
      nat_output = stands_behind all Nat Output true (nat_rules Output 5 marks) (here ++ at_pre ∷ at_in ∷ []) (at_post ∷ rest)
          (none_stand Nat Output here (at_pre ∷ at_in ∷ []) (front_none Nat Output known_users fresh_users refl) refl) refl
          (from_nat ∙ sym (append_assoc here (at_pre ∷ at_in ∷ []) (at_out ∷ at_post ∷ rest)))

      pub nat_postrouting : Stands all Nat Postrouting true (nat_rules Postrouting 5 marks) (length (here ++ at_pre ∷ at_in ∷ at_out ∷ []))
      nat_postrouting = stands_behind all Nat Postrouting true (nat_rules Postrouting 5 marks) (here ++ at_pre ∷ at_in ∷ at_out ∷ []) rest
          (none_stand Nat Postrouting here (at_pre ∷ at_in ∷ at_out ∷ []) (front_none Nat Postrouting known_users fresh_users refl) refl) refl
          (from_nat ∙ sym (append_assoc here (at_pre ∷ at_in ∷ at_out ∷ []) (at_post ∷ rest)))

      ahead_none : (hook : Hook) → list_any (stands_at Filter hook) (mangle_chains arriving sending) ≡ false → list_any (stands_at Filter hook) (nat_chains marks) ≡ false
          → list_any (stands_at Filter hook) (ahead arriving sending) ≡ false
      ahead_none hook mangle nat = none_stand Filter hook here (nat_chains marks) (front_none Filter hook known_users fresh_users mangle) nat

      abbrev before : List IptChain
      before = ahead arriving sending

      abbrev first : IptChain
      first = builtin Filter Input true delivering

      abbrev second : IptChain
      second = builtin Filter Forward true forwarding

      pub filter_input : Stands all Filter Input true delivering (length before)
      filter_input = stands_behind all Filter Input true delivering before (second ∷ builtin Filter Output true sent ∷ reply) (ahead_none Input refl refl) refl from_filter

      pub filter_forward : Stands all Filter Forward true forwarding (length (before ++ first ∷ []))
      filter_forward = stands_behind all Filter Forward true forwarding (before ++ first ∷ []) (builtin Filter Output true sent ∷ reply)
          (none_stand Filter Forward before (first ∷ []) (ahead_none Forward refl refl) refl) refl
          (from_filter ∙ sym (append_assoc before (first ∷ []) (second ∷ builtin Filter Output true sent ∷ reply)))

      pub filter_output : Stands all Filter Output true sent (length (before ++ first ∷ second ∷ []))
      filter_output = stands_behind all Filter Output true sent (before ++ first ∷ second ∷ []) reply
          (none_stand Filter Output before (first ∷ second ∷ []) (ahead_none Output refl refl) refl) refl
          (from_filter ∙ sym (append_assoc before (first ∷ second ∷ []) (builtin Filter Output true sent ∷ reply)))
