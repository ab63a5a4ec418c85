-- A filled draft can be printed.
use Rattle.std.proofs.Common.{◌≡◌, ℕ, suc, ◌+◌, ◌^◌, ◌<◌, ◌≤◌, inl, inr, Bool, true, false, ◌&&◌, ◌||◌, not, nat_le, Some, None, is_some, List, [], ◌∷◌, ◌++◌, length, All, codes, slice_get, arith, refl, sym, ap, ◌∙◌, subst, append_assoc, append-nil, length-append}
use Rattle.std.proofs.lemmas.Bool.{and_parts, and_from, leb-true, le-leb}
use Rattle.std.proofs.lemmas.List.Elements.{All-append, All-cons, All-head, All-nil, All-tail}
use Rattle.std.specs.List.{count_by, list_all}
use Rattle.fws_iv.specs.Ivs.{has}
use Rattle.fws_net.specs.declared.condition.Lit.{Lit}
use Rattle.fws_net.specs.declared.site.Site.{Site}
use Rattle.fws_tree.specs.declared.tables.Tables.{Tables}
use Rattle.fws_ipt.specs.declared.config.IptChain.{IptChain}
use Rattle.fws_ipt.specs.declared.config.IptConfig.{IptConfig}
use Rattle.fws_ipt.specs.declared.config.IptRule.{IptRule}
use Rattle.fws_ipt.specs.declared.config.IptTable.{IptTable}
use Rattle.fws_ipt.specs.declared.config.IptTable.TheVariants.{Filter, Nat, Mangle}
use Rattle.fws_ipt.specs.declared.hook.Hook.{Hook}
use Rattle.fws_ipt.specs.declared.hook.Hook.TheVariants.{Prerouting, Input, Forward, Output, Postrouting}
use Rattle.fws_ipt.specs.Hooks.{hook_named}
use Rattle.fws_ipt.specs.RuleText.{is_chain}
use Rattle.fws_ipt.specs.Soundness.{are_apart, is_named, is_user_chain}
use Rattle.fws_ipt.specs.Walk.{shows_recv}
use Rattle.fws_ipt_print.specs.Printable.{are_in_order, begins_with_letter, is_chain_name, is_name_byte, is_printable, is_printed_act, is_printed_chain, is_printed_policy, is_printed_rule, rank_of}
use Rattle.fws_ipt_put_chains.specs.declared.verdict.Branch.{Branch}
use Rattle.fws_ipt_put_chains.specs.Blocks.{EndsInNumber, IsPrintedAct}
use Rattle.fws_ipt_put_chains.specs.Branches.{PartEntries}
use Rattle.fws_ipt_put.specs.declared.chains.Draft.{Draft}
use Rattle.fws_ipt_put.specs.declared.marks.Mark.{Mark}
use Rattle.fws_ipt_put.specs.Builtin.{builtin, filter_chains, mangle_chains, nat_chains}
use Rattle.fws_ipt_put.specs.Drafts.{IsDraft, IsFilled, begun}
use Rattle.fws_ipt_put.specs.Marks.{mark_chain, mark_chains}
use Rattle.fws_ipt_put.specs.NatRules.{nat_rules}
use Rattle.fws_ipt_put.specs.Roots.{arriving_rules, go_at, sending_rules}
use Rattle.fws_ipt_put.proofs.Closing.{all_joined, list_all_same}
use Rattle.fws_ipt_put.proofs.Drafted as drafted
use Rattle.fws_ipt_put.proofs.Filling.{refilled_user_chain}
use Rattle.fws_ipt_put.proofs.Laid as laying
use Rattle.fws_ipt_put.proofs.Naming.{AreNumbered, AreTold, IsUserChain, block_apart, builtin_apart, users_named}
use Rattle.fws_ipt_put.proofs.Plan.{Known}
use Rattle.fws_ipt_put.proofs.Planned.{fresh_printed, known_printed, reply_printed}
use Rattle.fws_ipt_put.proofs.Printing.{FitsMark, act_same, arriving_printed, chain_same, marks_printed, nat_chain_printed, sending_printed, stands_there}
use Rattle.fws_ipt_put.proofs.RootsMet.{branch_at}

-- The order of the tables

lower : (least more : ℕ) (ys : List IptChain) → least ≤ more → are_in_order more ys ≡ true → are_in_order least ys ≡ true
lower least more [] le h = refl
lower least more (y ∷ ys) le h =
    let both = and_parts (nat_le more (rank_of y.table)) (are_in_order (rank_of y.table) ys) h in
    let above : more ≤ rank_of y.table = leb-true more (rank_of y.table) both.0 in
    and_from (nat_le least (rank_of y.table)) (are_in_order (rank_of y.table) ys) (le-leb least (rank_of y.table) (omega (arith, le, above))) both.1

abbrev OfTable : IptTable → List IptChain → Type 0
OfTable table xs = All (λ (chain : IptChain). chain.table ≡ table) xs

order_behind : (table : IptTable) (xs ys : List IptChain) (least : ℕ) → OfTable table xs → least ≤ rank_of table → are_in_order (rank_of table) ys ≡ true → are_in_order least (xs ++ ys) ≡ true
order_behind table [] ys least of_table le h = lower least (rank_of table) ys le h
order_behind table (x ∷ xs) ys least of_table le h =
    let is = All-head (λ (chain : IptChain). chain.table ≡ table) x xs of_table in
    and_from (nat_le least (rank_of x.table)) (are_in_order (rank_of x.table) (xs ++ ys))
    (ap (λ t. nat_le least (rank_of t)) is ∙ le-leb least (rank_of table) le)
    (ap (λ t. are_in_order (rank_of t) (xs ++ ys)) is
    ∙ order_behind table xs ys (rank_of table) (All-tail (λ (chain : IptChain). chain.table ≡ table) x xs of_table) (omega arith) h)

order_alone : (table : IptTable) (xs : List IptChain) (least : ℕ) → OfTable table xs → least ≤ rank_of table → are_in_order least xs ≡ true
order_alone table [] least of_table le = refl
order_alone table (x ∷ xs) least of_table le =
    let is = All-head (λ (chain : IptChain). chain.table ≡ table) x xs of_table in
    and_from (nat_le least (rank_of x.table)) (are_in_order (rank_of x.table) xs)
    (ap (λ t. nat_le least (rank_of t)) is ∙ le-leb least (rank_of table) le)
    (ap (λ t. are_in_order (rank_of t) xs) is
    ∙ order_alone table xs (rank_of table) (All-tail (λ (chain : IptChain). chain.table ≡ table) x xs of_table) (omega arith))

marks_of_table : (v : ℕ) (marks : List Mark) → OfTable Mangle (mark_chains v marks)
marks_of_table v [] = All-nil (λ (chain : IptChain). chain.table ≡ Mangle)
marks_of_table v (mark ∷ marks) = All-cons (λ (chain : IptChain). chain.table ≡ Mangle) (mark_chain v) (mark_chains (suc v) marks) refl (marks_of_table (suc v) marks)

-- Names

chain_letter : (name : List ℕ) → is_chain_name name ≡ true → begins_with_letter name ≡ true
chain_letter name h =
    (and_parts (begins_with_letter name) (list_all is_name_byte name)
    (and_parts (begins_with_letter name && list_all is_name_byte name) (nat_le (length name) 28) h).0).0

user_of : (site : Site) (chains : List IptChain) (chain : IptChain) → chain.policy ≡ None → is_printed_chain site chains chain ≡ true → IsUserChain chain
user_of site chains chain none printed =
    let parts = and_parts ((is_some chain.policy || is_chain_name chain.name) && is_printed_policy chain.table chain.policy) (list_all (is_printed_rule site chains chain) chain.rules) printed in
    let named = and_parts (is_some chain.policy || is_chain_name chain.name) (is_printed_policy chain.table chain.policy) parts.0 in
    record {
      policy = none;
      letter = chain_letter chain.name (sym (ap (λ o. is_some o || is_chain_name chain.name) none) ∙ named.0);
    }

block_users : (site : Site) (chains : List IptChain) (table : IptTable) (block : List IptChain) → All (λ (chain : IptChain). (chain.table ≡ table) × (chain.policy ≡ None)) block
    → All (λ (chain : IptChain). is_printed_chain site chains chain ≡ true) block → All IsUserChain block
block_users site chains table [] of_table printed = All-nil IsUserChain
block_users site chains table (x ∷ xs) of_table printed =
    All-cons IsUserChain x xs
    (user_of site chains x (All-head (λ (chain : IptChain). (chain.table ≡ table) × (chain.policy ≡ None)) x xs of_table).1 (All-head (λ (chain : IptChain). is_printed_chain site chains chain ≡ true) x xs printed))
    (block_users site chains table xs (All-tail (λ (chain : IptChain). (chain.table ≡ table) × (chain.policy ≡ None)) x xs of_table)
    (All-tail (λ (chain : IptChain). is_printed_chain site chains chain ≡ true) x xs printed))

block_of_table : (table : IptTable) (block : List IptChain) → All (λ (chain : IptChain). (chain.table ≡ table) × (chain.policy ≡ None)) block → OfTable table block
block_of_table table [] of_table = All-nil (λ (chain : IptChain). chain.table ≡ table)
block_of_table table (x ∷ xs) of_table =
    All-cons (λ (chain : IptChain). chain.table ≡ table) x xs (All-head (λ (chain : IptChain). (chain.table ≡ table) × (chain.policy ≡ None)) x xs of_table).0
    (block_of_table table xs (All-tail (λ (chain : IptChain). (chain.table ≡ table) × (chain.policy ≡ None)) x xs of_table))

marks_users : (v : ℕ) (marks : List Mark) → All IsUserChain (mark_chains v marks)
marks_users v [] = All-nil IsUserChain
marks_users v (mark ∷ marks) = All-cons IsUserChain (mark_chain v) (mark_chains (suc v) marks) (record { policy = refl; letter = refl }) (marks_users (suc v) marks)

-- Numbers

numbered_by : (n : ℕ) (block : List IptChain) → All IsUserChain block → ((k : ℕ) (chain : IptChain) → slice_get block k ≡ Some chain → EndsInNumber (n + k) chain.name) → AreNumbered n block
numbered_by n [] users ends = tt
numbered_by n (x ∷ xs) users ends =
    let same : n + 0 ≡ n = omega arith in (
      (All-head IsUserChain x xs users).letter,
      subst (λ m. EndsInNumber m x.name) same (ends 0 x refl),
      numbered_by (suc n) xs (All-tail IsUserChain x xs users)
          (λ k chain is. let next : n + suc k ≡ suc n + k = omega arith in subst (λ m. EndsInNumber m chain.name) next (ends (suc k) chain is)),
    )

marks_numbered : (v : ℕ) (marks : List Mark) → AreNumbered v (mark_chains v marks)
marks_numbered v [] = tt
marks_numbered v (mark ∷ marks) = (refl, (codes "mark", refl), marks_numbered (suc v) marks)

both_numbered : (n : ℕ) (xs ys : List IptChain) → AreNumbered n xs → AreNumbered (n + length xs) ys → AreNumbered n (xs ++ ys)
both_numbered n [] ys first second = let same : n + 0 ≡ n = omega arith in subst (λ m. AreNumbered m ys) same second
both_numbered n (x ∷ xs) ys first second =
    let same : n + suc (length xs) ≡ suc n + length xs = omega arith in
    (first.0, first.1, both_numbered (suc n) xs ys first.2 (subst (λ m. AreNumbered m ys) same second))

numbered_told : (n : ℕ) (xs : List IptChain) → AreNumbered n xs → AreTold n xs
numbered_told n [] numbered = tt
numbered_told n (x ∷ xs) numbered = (inr numbered.1, numbered_told (suc n) xs numbered.2)

all_list : {X : Type 0} (f : X → Bool) (xs : List X) → All (λ x. f x ≡ true) xs → list_all f xs ≡ true
all_list f [] all = refl
all_list f (x ∷ xs) all = and_from (f x) (list_all f xs) (All-head (λ y. f y ≡ true) x xs all) (all_list f xs (All-tail (λ y. f y ≡ true) x xs all))

-- Built-in chains by their names
mangle_named : (arriving sending : List IptRule) → list_all is_named (mangle_chains arriving sending) ≡ true
unfolding hook_named
mangle_named arriving sending = refl

nat_named : (marks : List Mark) → list_all is_named (nat_chains marks) ≡ true
unfolding hook_named
nat_named marks = refl

filter_named : (delivering forwarding sent : List IptRule) → list_all is_named (filter_chains delivering forwarding sent) ≡ true
unfolding hook_named
filter_named delivering forwarding sent = refl

one_isnt_none : (n : ℕ) → n ≡ 1 → n ≡ 0 → ⊥
one_isnt_none n one zero_is = omega (arith, one, zero_is)

-- each of the chains differs from the later ones
abbrev alone : IptChain → List IptChain → Bool
alone x ys = list_all (λ (later : IptChain). not (is_chain later.table later.name x)) ys

module _ (marks : List Mark) (users reply : List IptChain) (arriving sending delivering forwarding sent : List IptRule) (m : ℕ) (reply_numbered : AreNumbered m reply) (few_reply : m + length reply < 2 ^ 64) where
  reply_apart : are_apart reply ≡ true
  reply_apart =
      let none : m + length (reply ++ []) < 2 ^ 64 = omega (arith, ap length (append-nil reply), few_reply) in
      sym (ap are_apart (append-nil reply)) ∙ block_apart m reply [] reply_numbered tt none refl

  abbrev nat_behind : List IptChain
  nat_behind = nat_chains marks ++ (filter_chains delivering forwarding sent ++ reply)

  nat_apart : are_apart nat_behind ≡ true
  nat_apart =
      let pre = builtin Nat Prerouting true (nat_rules Prerouting 5 marks) in
      let inp = builtin Nat Input true (nat_rules Input 5 marks) in
      let out = builtin Nat Output true (nat_rules Output 5 marks) in
      let post = builtin Nat Postrouting true (nat_rules Postrouting 5 marks) in
      let f_in = builtin Filter Input true delivering in
      let f_for = builtin Filter Forward true forwarding in
      let f_out = builtin Filter Output true sent in
      and_from (alone pre reply) _ (builtin_apart pre refl m reply reply_numbered)
      (and_from (alone inp reply) _ (builtin_apart inp refl m reply reply_numbered)
      (and_from (alone out reply) _ (builtin_apart out refl m reply reply_numbered)
      (and_from (alone post reply) _ (builtin_apart post refl m reply reply_numbered)
      (and_from (alone f_in reply) _ (builtin_apart f_in refl m reply reply_numbered)
      (and_from (alone f_for reply) _ (builtin_apart f_for refl m reply reply_numbered)
      (and_from (alone f_out reply) _ (builtin_apart f_out refl m reply reply_numbered) reply_apart))))))

  module _ (users_numbered : AreNumbered 5 users) (place : 5 + length users + 7 ≡ m) where
    nat_told : AreTold (5 + length users) nat_behind
    nat_told =
        let same : m ≡ suc (suc (suc (suc (suc (suc (suc (5 + length users))))))) = omega (arith, place) in
        (inl refl, (inl refl, (inl refl, (inl refl, (inl refl, (inl refl, (inl refl, subst (λ k. AreTold k reply) same (numbered_told m reply reply_numbered))))))))

    behind_apart : are_apart (users ++ nat_behind) ≡ true
    behind_apart =
        let seven : length nat_behind ≡ 7 + length reply = omega arith in
        let both = length-append users nat_behind in
        block_apart 5 users nat_behind users_numbered nat_told (omega (arith, both, seven, place, few_reply)) nat_apart

    pub all_apart : are_apart (mangle_chains arriving sending ++ (users ++ nat_behind)) ≡ true
    all_apart =
        let pre = builtin Mangle Prerouting false arriving in
        let inp = builtin Mangle Input true [] in
        let fwd = builtin Mangle Forward true [] in
        let out = builtin Mangle Output false sending in
        let post = builtin Mangle Postrouting true [] in
        let rest = users ++ nat_behind in
        and_from (alone pre rest) _ (away pre refl refl)
        (and_from (alone inp rest) _ (away inp refl refl)
        (and_from (alone fwd rest) _ (away fwd refl refl)
        (and_from (alone out rest) _ (away out refl refl)
        (and_from (alone post rest) (are_apart rest) (away post refl refl) behind_apart)))) where
          away : (x : IptChain) → begins_with_letter x.name ≡ false → alone x (nat_chains marks ++ filter_chains delivering forwarding sent) ≡ true → alone x (users ++ nat_behind) ≡ true
          away x capital others =
              all_joined (λ (later : IptChain). not (is_chain later.table later.name x)) users nat_behind (builtin_apart x capital 5 users users_numbered)
              (all_joined (λ (later : IptChain). not (is_chain later.table later.name x)) (nat_chains marks ++ filter_chains delivering forwarding sent) reply others (builtin_apart x capital m reply reply_numbered))

module _ (site : Site) (tables : Tables) (k : Known site tables) (draft : Draft) (d : IsDraft site k.entering k.news k.routed k.marks draft) (chains : List IptChain) (f : IsFilled site draft chains)
    (fits : All FitsMark k.marks) (few : 5 + length k.marks ≤ 2 ^ 32) (many : length draft.chains < 2 ^ 64) where
  abbrev known : List IptChain
  known = d.known_block.block

  abbrev fresh : List IptChain
  fresh = d.fresh_block.block

  abbrev reply : List IptChain
  reply = d.reply_block.block

  abbrev empty : List IptChain
  empty = drafted.empty site tables k draft d

  abbrev all : List IptChain
  all = drafted.all site tables k draft d chains f

  abbrev last : ℕ
  last = length site.faces + 1

  abbrev marked : List IptChain
  marked = mark_chains 5 k.marks

  -- the chains so far
  abbrev one : List IptChain
  one = mangle_chains f.arriving f.sending ++ marked

  abbrev two : List IptChain
  two = one ++ known

  abbrev three : List IptChain
  three = two ++ fresh

  abbrev four : List IptChain
  four = three ++ nat_chains k.marks

  abbrev five : List IptChain
  five = four ++ filter_chains f.delivering f.forwarding f.sent

  -- the chains of the user's ahead of nat
  abbrev users : List IptChain
  users = (marked ++ known) ++ fresh

  abbrev behind : List IptChain
  behind = nat_chains k.marks ++ (filter_chains f.delivering f.forwarding f.sent ++ reply)

  all_is : all ≡ mangle_chains f.arriving f.sending ++ (users ++ behind)
  all_is =
      laying.from_nat k.marks known fresh reply f.arriving f.sending f.delivering f.forwarding f.sent
      ∙ ap (λ l. l ++ fresh ++ behind) (append_assoc (mangle_chains f.arriving f.sending) marked known)
      ∙ ap (λ l. l ++ behind) (append_assoc (mangle_chains f.arriving f.sending) (marked ++ known) fresh)
      ∙ append_assoc (mangle_chains f.arriving f.sending) users behind

  same_users : (table : IptTable) (c : ℕ) → is_user_chain table all c ≡ is_user_chain table empty c
  same_users table c = refilled_user_chain table all empty (drafted.refilled site tables k draft d chains f) c

  known_are : All IsUserChain known
  known_are = block_users site empty Mangle known d.known_block.of_table (known_printed site tables k draft d)

  fresh_are : All IsUserChain fresh
  fresh_are = block_users site empty Mangle fresh d.fresh_block.of_table (fresh_printed site tables k draft d)

  reply_are : All IsUserChain reply
  reply_are = block_users site empty Filter reply d.reply_block.of_table (reply_printed site tables k draft d)

  -- Order

  ordered : are_in_order 0 all ≡ true
  ordered =
      ap (are_in_order 0) all_is
      ∙ order_behind Mangle (mangle_chains f.arriving f.sending) (users ++ behind) 0 mangle_of (omega arith)
      (order_behind Mangle users behind 0
      (All-append (λ (chain : IptChain). chain.table ≡ Mangle) (marked ++ known) fresh
      (All-append (λ (chain : IptChain). chain.table ≡ Mangle) marked known (marks_of_table 5 k.marks) (block_of_table Mangle known d.known_block.of_table))
      (block_of_table Mangle fresh d.fresh_block.of_table)) (omega arith)
      (order_alone Filter reply 2 (block_of_table Filter reply d.reply_block.of_table) (omega arith))) where
        mangle_of : OfTable Mangle (mangle_chains f.arriving f.sending)
        mangle_of =
            let P : IptChain → Type 0 = λ (chain : IptChain). chain.table ≡ Mangle in
            let pre = builtin Mangle Prerouting false f.arriving in
            let inp = builtin Mangle Input true [] in
            let fwd = builtin Mangle Forward true [] in
            let out = builtin Mangle Output false f.sending in
            let post = builtin Mangle Postrouting true [] in
            All-cons P pre (inp ∷ fwd ∷ out ∷ post ∷ []) refl (All-cons P inp (fwd ∷ out ∷ post ∷ []) refl
            (All-cons P fwd (out ∷ post ∷ []) refl (All-cons P out (post ∷ []) refl (All-cons P post [] refl (All-nil P)))))

  -- Names

  named : list_all is_named all ≡ true
  named =
      all_joined is_named five reply
      (all_joined is_named four (filter_chains f.delivering f.forwarding f.sent)
      (all_joined is_named three (nat_chains k.marks)
      (all_joined is_named two fresh
      (all_joined is_named one known
      (all_joined is_named (mangle_chains f.arriving f.sending) marked (mangle_named f.arriving f.sending) (users_named marked (marks_users 5 k.marks)))
      (users_named known known_are))
      (users_named fresh fresh_are))
      (nat_named k.marks))
      (filter_named f.delivering f.forwarding f.sent))
      (users_named reply reply_are)

  begun_long : length (begun k.marks) ≡ 5 + length marked
  begun_long = length-append (mangle_chains [] []) marked

  known_long : length d.with_known ≡ 5 + length (marked ++ known)
  known_long =
      let a = ap length d.known_block.extends in
      let b = length-append (begun k.marks) known in
      let e = length-append marked known in
      let start = begun_long in
      omega (arith, a, b, e, start)

  reply_long : 5 + length users + 7 ≡ length ((d.with_fresh ++ nat_chains k.marks) ++ filter_chains [] [] [])
  reply_long =
      let a = ap length d.fresh_block.extends in
      let b = length-append d.with_known fresh in
      let e = length-append (marked ++ known) fresh in
      let g = length-append d.with_fresh (nat_chains k.marks) in
      let h = length-append (d.with_fresh ++ nat_chains k.marks) (filter_chains [] [] []) in
      let start = known_long in
      omega (arith, a, b, e, g, h, start)

  users_numbered : AreNumbered 5 users
  users_numbered =
      both_numbered 5 (marked ++ known) fresh
      (both_numbered 5 marked known (marks_numbered 5 k.marks)
      (subst (λ n. AreNumbered n known) begun_long (numbered_by (length (begun k.marks)) known known_are d.known_block.named)))
      (subst (λ n. AreNumbered n fresh) known_long (numbered_by (length d.with_known) fresh fresh_are d.fresh_block.named))

  apart : are_apart all ≡ true
  apart =
      let start = length ((d.with_fresh ++ nat_chains k.marks) ++ filter_chains [] [] []) in
      let long = ap length d.reply_block.extends ∙ length-append ((d.with_fresh ++ nat_chains k.marks) ++ filter_chains [] [] []) reply in
      let small : start + length reply < 2 ^ 64 = omega (arith, long, many) in
      ap are_apart all_is
      ∙ all_apart k.marks users reply f.arriving f.sending f.delivering f.forwarding f.sent start
      (numbered_by start reply reply_are d.reply_block.named) small users_numbered reply_long

  -- Rules

  abbrev printed : List IptChain → Bool
  printed block = list_all (is_printed_chain site all) block

  block_prints : (block : List IptChain) → All (λ (chain : IptChain). is_printed_chain site empty chain ≡ true) block → printed block ≡ true
  block_prints block prints =
      list_all_same (is_printed_chain site all) (is_printed_chain site empty) (chain_same site all empty same_users) block
      ∙ all_list (is_printed_chain site empty) block prints

  -- what branches do is printed
  goes : (table : IptTable) (some past : List IptChain) (branches : List Branch) → empty ≡ some ++ past → All (λ (b : Branch). IsPrintedAct table some b.go) branches → PartEntries last branches
      → (chain : IptChain) → chain.table ≡ table → (e : ℕ) (conds : List Lit) → e ≤ last → is_printed_act all chain conds (go_at branches e) ≡ true
  goes table some past branches are acts parts chain of_table e conds low =
      let found = branch_at (λ (b : Branch). IsPrintedAct table some b.go) branches e acts
      (λ zero_is. one_isnt_none (count_by (λ (b : Branch). has b.entries e) branches) (parts.once e low) zero_is) in
      ap (is_printed_act all chain conds) found.first
      ∙ act_same all empty same_users chain conds found.branch.go
      ∙ ap (λ l. is_printed_act l chain conds found.branch.go) are
      ∙ found.such past chain conds of_table

  known_goes : (chain : IptChain) → chain.table ≡ Mangle → (e : ℕ) (conds : List Lit) → e ≤ last → is_printed_act all chain conds (go_at draft.known e) ≡ true
  known_goes = goes Mangle d.with_known (drafted.past_known site tables k draft d) draft.known (drafted.from_known site tables k draft d) d.known_acts d.known_parts

  fresh_goes : (chain : IptChain) → chain.table ≡ Mangle → (e : ℕ) (conds : List Lit) → e ≤ last → is_printed_act all chain conds (go_at draft.fresh e) ≡ true
  fresh_goes = goes Mangle d.with_fresh (drafted.past_fresh site tables k draft d) draft.fresh (drafted.from_fresh site tables k draft d) d.fresh_acts d.fresh_parts

  reply_goes : (chain : IptChain) → chain.table ≡ Filter → (e : ℕ) (conds : List Lit) → e ≤ last → is_printed_act all chain conds (go_at draft.reply e) ≡ true
  reply_goes = goes Filter draft.chains [] draft.reply (drafted.from_reply site tables k draft d) d.reply_acts d.reply_parts

  prerouting_prints : is_printed_chain site all (builtin Mangle Prerouting false f.arriving) ≡ true
  prerouting_prints =
      let chain = builtin Mangle Prerouting false f.arriving in
      let shows = stands_there shows_recv Mangle Prerouting false f.arriving in
      let e = f.rules.entering in
      ap (list_all (is_printed_rule site all chain)) e.are
      ∙ all_joined (is_printed_rule site all chain) (arriving_rules true draft.known e.usual last) (arriving_rules false draft.fresh e.usual_new last)
      (arriving_printed site all chain draft.known (known_goes chain refl) true e.usual last shows e.high (omega arith))
      (arriving_printed site all chain draft.fresh (fresh_goes chain refl) false e.usual_new last shows e.high_new (omega arith))

  output_prints : is_printed_chain site all (builtin Mangle Output false f.sending) ≡ true
  output_prints =
      let chain = builtin Mangle Output false f.sending in
      ap (list_all (is_printed_rule site all chain)) f.rules.host
      ∙ all_joined (is_printed_rule site all chain) (sending_rules true draft.known) (sending_rules false draft.fresh)
      (sending_printed site all chain draft.known (known_goes chain refl) true)
      (sending_printed site all chain draft.fresh (fresh_goes chain refl) false)

  input_prints : is_printed_chain site all (builtin Filter Input true f.delivering) ≡ true
  input_prints =
      let chain = builtin Filter Input true f.delivering in
      ap (list_all (is_printed_rule site all chain)) f.rules.input.are
      ∙ arriving_printed site all chain draft.reply (reply_goes chain refl) true f.rules.input.usual last (stands_there shows_recv Filter Input true f.delivering) f.rules.input.high (omega arith)

  forward_prints : is_printed_chain site all (builtin Filter Forward true f.forwarding) ≡ true
  forward_prints =
      let chain = builtin Filter Forward true f.forwarding in
      ap (list_all (is_printed_rule site all chain)) f.rules.forward.are
      ∙ arriving_printed site all chain draft.reply (reply_goes chain refl) true f.rules.forward.usual last (stands_there shows_recv Filter Forward true f.forwarding) f.rules.forward.high (omega arith)

  sent_prints : is_printed_chain site all (builtin Filter Output true f.sent) ≡ true
  sent_prints =
      let chain = builtin Filter Output true f.sent in
      ap (list_all (is_printed_rule site all chain)) f.rules.output
      ∙ sending_printed site all chain draft.reply (reply_goes chain refl) true

  all_printed : printed all ≡ true
  all_printed =
      all_joined (is_printed_chain site all) five reply
      (all_joined (is_printed_chain site all) four (filter_chains f.delivering f.forwarding f.sent)
      (all_joined (is_printed_chain site all) three (nat_chains k.marks)
      (all_joined (is_printed_chain site all) two fresh
      (all_joined (is_printed_chain site all) one known
      (all_joined (is_printed_chain site all) (mangle_chains f.arriving f.sending) marked mangle_prints
      (marks_printed site all 5 k.marks few))
      (block_prints known (known_printed site tables k draft d)))
      (block_prints fresh (fresh_printed site tables k draft d)))
      nat_prints)
      filter_prints)
      (block_prints reply (reply_printed site tables k draft d)) where
        mangle_prints : printed (mangle_chains f.arriving f.sending) ≡ true
        mangle_prints =
            and_from (is_printed_chain site all (builtin Mangle Prerouting false f.arriving)) (is_printed_chain site all (builtin Mangle Output false f.sending) && true)
            prerouting_prints (and_from (is_printed_chain site all (builtin Mangle Output false f.sending)) true output_prints refl)

        nat_prints : printed (nat_chains k.marks) ≡ true
        nat_prints =
            let print = λ (hook : Hook). nat_chain_printed site all hook k.marks few fits in
            let at = λ (hook : Hook). is_printed_chain site all (builtin Nat hook true (nat_rules hook 5 k.marks)) in
            and_from (at Prerouting) (at Input && (at Output && (at Postrouting && true))) (print Prerouting)
            (and_from (at Input) (at Output && (at Postrouting && true)) (print Input)
            (and_from (at Output) (at Postrouting && true) (print Output) (and_from (at Postrouting) true (print Postrouting) refl)))

        filter_prints : printed (filter_chains f.delivering f.forwarding f.sent) ≡ true
        filter_prints =
            let a = is_printed_chain site all (builtin Filter Input true f.delivering) in
            let b = is_printed_chain site all (builtin Filter Forward true f.forwarding) in
            let c = is_printed_chain site all (builtin Filter Output true f.sent) in
            and_from a (b && (c && true)) input_prints (and_from b (c && true) forward_prints (and_from c true sent_prints refl))

pub printable : (site : Site) (tables : Tables) (k : Known site tables) (draft : Draft) (d : IsDraft site k.entering k.news k.routed k.marks draft) (c : IptConfig) (f : IsFilled site draft c.chains)
    → All FitsMark k.marks → 5 + length k.marks ≤ 2 ^ 32 → length draft.chains < 2 ^ 64 → is_printable site c ≡ true
printable site tables k draft d c f fits few many =
    let all = drafted.all site tables k draft d c.chains f in
    let P : List IptChain → Bool = λ (l : List IptChain). are_in_order 0 l && list_all is_named l && are_apart l && list_all (is_printed_chain site l) l in
    ap P (drafted.all_are site tables k draft d c.chains f)
    ∙ and_from (are_in_order 0 all && list_all is_named all && are_apart all) (list_all (is_printed_chain site all) all)
    (and_from (are_in_order 0 all && list_all is_named all) (are_apart all)
    (and_from (are_in_order 0 all) (list_all is_named all) (ordered site tables k draft d c.chains f fits few many) (named site tables k draft d c.chains f fits few many))
    (apart site tables k draft d c.chains f fits few many))
    (all_printed site tables k draft d c.chains f fits few many)
