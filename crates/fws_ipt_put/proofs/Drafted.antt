-- The chains of a filled draft are a plan.
use Rattle.std.proofs.Common.{◌≡◌, ℕ, suc, ◌+◌, ◌<◌, Bool, true, false, ◌&&◌, slice_get, Option, Some, None, is_none, List, [], ◌∷◌, ◌++◌, length, All, arith, refl, sym, ap, ◌∙◌, subst, append_assoc, append-nil, length-append, get_or}
use Rattle.std.proofs.lemmas.Bool.{and_parts}
use Rattle.std.proofs.lemmas.List.Elements.{All-cons, All-nil, All-weaker}
use Rattle.std.specs.Option.{option_map_or}
use Rattle.fws_net.specs.declared.condition.Lit.{Lit}
use Rattle.fws_net.specs.declared.site.Site.{Site}
use Rattle.fws_net.specs.Points.{tops_of}
use Rattle.fws_tree.specs.Plain.{Plain}
use Rattle.fws_tree.specs.declared.tables.Tables.{Tables}
use Rattle.fws_tree_seen.specs.declared.seen.Seen.TheVariants.{Entered, Routed}
use Rattle.fws_tree_seen.specs.declared.seen.Seen.{Seen}
use Rattle.fws_ipt.specs.declared.config.IptChain.{IptChain}
use Rattle.fws_ipt.specs.declared.config.IptGo.{IptGo}
use Rattle.fws_ipt.specs.declared.config.IptGo.TheVariants as acts
use Rattle.fws_ipt.specs.declared.config.IptRule.{IptRule}
use Rattle.fws_ipt.specs.declared.config.IptTable.{IptTable}
use Rattle.fws_ipt.specs.declared.config.IptTable.TheVariants.{Filter, Mangle}
use Rattle.fws_ipt.specs.declared.hook.Hook.{Hook}
use Rattle.fws_ipt.specs.declared.hook.Hook.TheVariants.{Prerouting, Input, Forward, Output, Postrouting}
use Rattle.fws_ipt.specs.Soundness.{is_user_chain}
use Rattle.fws_ipt.specs.Walk.{act, chain_walk, is_table}
use Rattle.fws_ipt_print.specs.Printable.{is_printed_act}
use Rattle.fws_ipt_put_chains.specs.declared.verdict.Branch.{Branch}
use Rattle.fws_ipt_put_chains.specs.declared.verdict.Verdict.{Verdict}
use Rattle.fws_ipt_put_chains.specs.Blocks.{IsPrintedAct}
use Rattle.fws_ipt_put_chains.specs.Branches.{Leads}
use Rattle.fws_ipt_put.specs.declared.chains.Draft.{Draft}
use Rattle.fws_ipt_put.specs.Builtin.{builtin, filter_chains, nat_chains}
use Rattle.fws_ipt_put.specs.Drafts.{IsDraft, IsFilled, begun}
use Rattle.fws_ipt_put.specs.Marks.{mark_chains}
use Rattle.fws_ipt_put.proofs.Altered.{Closed, SameUsers, go_same, is_users, stays}
use Rattle.fws_ipt_put.proofs.Filling.{AreRefilled, refilled_is_users, refilled_length, refilled_users}
use Rattle.fws_ipt_put.proofs.Laid.{AreUsers, ahead, filled_is, front, laid, laid_refilled}
use Rattle.fws_ipt_put.proofs.Laid as laying
use Rattle.fws_ipt_put.proofs.Plan.{Known, Plan, Root}
use Rattle.fws_ipt_put.proofs.Standing.{LeadsIn, Stands}

-- what a rule does that may be printed stays among chains of the user's
user_is : (table : IptTable) (chains : List IptChain) (c : ℕ) → is_user_chain table chains c ≡ true → is_users chains c ≡ true
user_is table chains c h = by_chain (slice_get chains c) h where
  by_chain : (o : Option IptChain) → option_map_or (λ (chain : IptChain). is_table table chain.table && is_none chain.policy) o false ≡ true
      → option_map_or (λ (chain : IptChain). is_none chain.policy) o false ≡ true
  by_chain None h = h
  by_chain (Some chain) h = (and_parts (is_table table chain.table) (is_none chain.policy) h).1

pub printed_stays : (chains : List IptChain) (chain : IptChain) (cond : List Lit) (go : IptGo) → is_printed_act chains chain cond go ≡ true → stays chains go ≡ true
printed_stays chains chain conds acts.Accept h = refl
printed_stays chains chain conds acts.Drop h = refl
printed_stays chains chain conds acts.Return h = refl
printed_stays chains chain conds acts.Next h = refl
printed_stays chains chain conds (acts.Jump c) h = h
printed_stays chains chain conds (acts.Goto c) h = user_is chain.table chains c h
printed_stays chains chain conds (acts.Mark v) h = refl
printed_stays chains chain conds (acts.Source e) h = refl
printed_stays chains chain conds acts.Masquerade h = refl
printed_stays chains chain conds (acts.Dest e) h = refl
printed_stays chains chain conds (acts.Redirect port) h = refl
printed_stays chains chain conds (acts.Netmap net) h = refl

abbrev any_chain : IptTable → IptChain
any_chain table = record { table = table; name = []; policy = None; rules = [] }

-- branches lead through chains that have the same ones of the user's
leads_in : (site : Site) (table : IptTable) (t : Plain Verdict) (seen : Seen) (least before past n : ℕ) (some further chains others : List IptChain)
    → Closed others → SameUsers others chains → chains ≡ some ++ further → past < before + n
    → (branch : Branch) → Leads (tops_of site) t seen least before past some branch → IsPrintedAct table some branch.go
    → ((c : ℕ) → is_users chains c ≡ true → is_users others c ≡ true)
    → LeadsIn site others n seen t least branch
leads_in site table t seen least before past n some further chains others closed same are room branch leads printed users p is_est hook c next m x verdict low within sees is has_entry =
    go_same others chains closed same site p is_est hook n (c ∷ []) next branch.go stay m
    ∙ ap (λ (l : List IptChain). act (chain_walk l site p is_est hook n (c ∷ [])) next site p hook branch.go m) are
    ∙ leads further site p is_est hook n (c ∷ []) next m x verdict room below within has_entry sees is where
      below : All (λ k. k < least) (c ∷ [])
      below = All-cons (λ k. k < least) c [] low (All-nil (λ k. k < least))

      stay : stays others branch.go ≡ true
      stay = stays_there branch.go (printed_stays chains (any_chain table) [] branch.go
          (ap (λ (l : List IptChain). is_printed_act l (any_chain table) [] branch.go) are ∙ printed further (any_chain table) [] refl)) where
            stays_there : (go : IptGo) → stays chains go ≡ true → stays others go ≡ true
            stays_there acts.Accept h = refl
            stays_there acts.Drop h = refl
            stays_there acts.Return h = refl
            stays_there acts.Next h = refl
            stays_there (acts.Jump d) h = h
            stays_there (acts.Goto d) h = users d h
            stays_there (acts.Mark v) h = refl
            stays_there (acts.Source e) h = refl
            stays_there acts.Masquerade h = refl
            stays_there (acts.Dest e) h = refl
            stays_there (acts.Redirect port) h = refl
            stays_there (acts.Netmap net) h = refl

all_both : {X : Type 0} (P Q R : X → Type 0) → ((x : X) → P x → Q x → R x) → (xs : List X) → All P xs → All Q xs → All R xs
all_both P Q R both xs first second = λ k d below. both (get_or xs k d) (first k d below) (second k d below)

-- the chains of mangle behind the first
abbrev mangle_tail : List IptRule → List IptChain
mangle_tail sending =
    builtin Mangle Input true [] ∷ builtin Mangle Forward true [] ∷ builtin Mangle Output false sending ∷ builtin Mangle Postrouting true [] ∷ []

module _ (site : Site) (tables : Tables) (k : Known site tables) (draft : Draft) (d : IsDraft site k.entering k.news k.routed k.marks draft) where
  abbrev known : List IptChain
  known = d.known_block.block

  abbrev fresh : List IptChain
  fresh = d.fresh_block.block

  abbrev reply : List IptChain
  reply = d.reply_block.block

  abbrev pub empty : List IptChain
  empty = laid k.marks known fresh reply [] [] [] [] []

  with_fresh_is : d.with_fresh ≡ (begun k.marks ++ known) ++ fresh
  with_fresh_is = d.fresh_block.extends ∙ ap (λ l. l ++ fresh) d.known_block.extends

  pub chains_are : draft.chains ≡ empty
  chains_are = d.reply_block.extends ∙ ap (λ l. ((l ++ nat_chains k.marks) ++ filter_chains [] [] []) ++ reply) with_fresh_is

  pub filter_is : draft.filter ≡ length (ahead k.marks known fresh reply [] [])
  filter_is = d.filter ∙ ap (λ l. length (l ++ nat_chains k.marks)) with_fresh_is

  users : (table : IptTable) (block : List IptChain) → All (λ (chain : IptChain). (chain.table ≡ table) × (chain.policy ≡ None)) block → AreUsers block
  users table block all = All-weaker (λ (chain : IptChain). (chain.table ≡ table) × (chain.policy ≡ None)) (λ (chain : IptChain). chain.policy ≡ None) (λ chain h. h.1) block all

  pub known_users : AreUsers known
  known_users = users Mangle known d.known_block.of_table

  pub fresh_users : AreUsers fresh
  fresh_users = users Mangle fresh d.fresh_block.of_table

  -- what stands behind the chains of each tree
  abbrev pub past_known : List IptChain
  past_known = fresh ++ (nat_chains k.marks ++ (filter_chains [] [] [] ++ reply))

  abbrev pub past_fresh : List IptChain
  past_fresh = nat_chains k.marks ++ (filter_chains [] [] [] ++ reply)

  pub from_fresh : empty ≡ d.with_fresh ++ past_fresh
  from_fresh =
      append_assoc (((begun k.marks ++ known) ++ fresh) ++ nat_chains k.marks) (filter_chains [] [] []) reply
      ∙ append_assoc ((begun k.marks ++ known) ++ fresh) (nat_chains k.marks) (filter_chains [] [] [] ++ reply)
      ∙ ap (λ l. l ++ past_fresh) (sym with_fresh_is)

  pub from_known : empty ≡ d.with_known ++ past_known
  from_known =
      from_fresh
      ∙ ap (λ l. l ++ past_fresh) d.fresh_block.extends
      ∙ append_assoc d.with_known fresh past_fresh

  pub from_reply : empty ≡ draft.chains ++ []
  from_reply = sym chains_are ∙ sym (append-nil draft.chains)

  module _ (chains : List IptChain) (f : IsFilled site draft chains) where
    abbrev pub all : List IptChain
    all = laid k.marks known fresh reply f.arriving f.sending f.delivering f.forwarding f.sent

    pub all_are : chains ≡ all
    all_are = f.are ∙ laying.filled_is k.marks known fresh reply f.arriving f.sending f.delivering f.forwarding f.sent draft chains_are filter_is

    pub refilled : AreRefilled all empty
    refilled = laid_refilled k.marks known fresh reply f.arriving f.sending f.delivering f.forwarding f.sent

    abbrev pub n : ℕ
    n = length ((((((mangle_tail f.sending ++ mark_chains 5 k.marks) ++ known) ++ fresh) ++ nat_chains k.marks) ++ filter_chains f.delivering f.forwarding f.sent) ++ reply)

    size : length all ≡ suc n
    size = refl

    module _ (closed : Closed all) where
      same : SameUsers all empty
      same = refilled_users all empty refilled

      back_users : (c : ℕ) → is_users empty c ≡ true → is_users all c ≡ true
      back_users c h = refilled_is_users all empty refilled c ∙ h

      long : length all ≡ length d.with_fresh + (4 + (3 + length reply))
      long =
          let seven : length past_fresh ≡ 4 + (3 + length reply) = omega arith in
          refilled_length all empty refilled ∙ ap length from_fresh ∙ length-append d.with_fresh past_fresh ∙ ap (λ m. length d.with_fresh + m) seven

      -- more chains may be entered than stand there
      known_room : length d.with_known < length (begun k.marks) + n
      known_room =
          let one = length-append d.with_known fresh in
          let two = ap length d.fresh_block.extends in
          let all_long = long in
          let sized : length all ≡ suc n = size in
          omega (arith, one, two, all_long, sized)

      fresh_room : length d.with_fresh < length d.with_known + n
      fresh_room =
          let all_long = long in
          let sized : length all ≡ suc n = size in
          omega (arith, all_long, sized)

      reply_room : length draft.chains < (draft.filter + 3) + n
      reply_room =
          let same_long = ap length chains_are ∙ sym (refilled_length all empty refilled) in
          let sized : length all ≡ suc n = size in
          omega (arith, same_long, sized)

      abbrev root_known : Root site all n Entered k.entering 5
      root_known = record {
        branches = draft.known;
        lead = all_both (Leads (tops_of site) k.entering Entered 5 (length (begun k.marks)) (length d.with_known) d.with_known) (λ (b : Branch). IsPrintedAct Mangle d.with_known b.go)
            (LeadsIn site all n Entered k.entering 5)
            (λ b leads printed. leads_in site Mangle k.entering Entered 5 (length (begun k.marks)) (length d.with_known) n d.with_known past_known empty all closed same from_known known_room b leads printed back_users)
            draft.known d.known_lead d.known_acts;
        parts = d.known_parts;
      }

      abbrev root_fresh : Root site all n Entered k.news 5
      root_fresh = record {
        branches = draft.fresh;
        lead = all_both (Leads (tops_of site) k.news Entered 5 (length d.with_known) (length d.with_fresh) d.with_fresh) (λ (b : Branch). IsPrintedAct Mangle d.with_fresh b.go)
            (LeadsIn site all n Entered k.news 5)
            (λ b leads printed. leads_in site Mangle k.news Entered 5 (length d.with_known) (length d.with_fresh) n d.with_fresh past_fresh empty all closed same from_fresh fresh_room b leads printed back_users)
            draft.fresh d.fresh_lead d.fresh_acts;
        parts = d.fresh_parts;
      }

      abbrev root_reply : Root site all n Routed k.routed (draft.filter + 3)
      root_reply = record {
        branches = draft.reply;
        lead = all_both (Leads (tops_of site) k.routed Routed (draft.filter + 3) (draft.filter + 3) (length draft.chains) draft.chains) (λ (b : Branch). IsPrintedAct Filter draft.chains b.go)
            (LeadsIn site all n Routed k.routed (draft.filter + 3))
            (λ b leads printed. leads_in site Filter k.routed Routed (draft.filter + 3) (draft.filter + 3) (length draft.chains) n draft.chains [] empty all closed same from_reply reply_room b leads printed back_users)
            draft.reply d.reply_lead d.reply_acts;
        parts = d.reply_parts;
      }

      abbrev before : List IptChain
      before = ahead k.marks known fresh reply f.arriving f.sending

      low : (more : List IptChain) → length more < 3 → length (before ++ more) < draft.filter + 3
      low more few =
          let is : draft.filter ≡ length before = filter_is in
          let both = length-append before more in
          omega (arith, is, both, few)

      stands_of : (table : IptTable) (hook : Hook) (accepts : Bool) (rules others : List IptRule) (c : ℕ) → rules ≡ others → Stands all table hook accepts rules c → Stands all table hook accepts others c
      stands_of table hook accepts rules others c same stands = subst (λ rs. Stands all table hook accepts rs c) same stands

      pub plan : Plan site tables k all
      plan = record {
        n = n;
        size = size;
        least = draft.filter + 3;
        known = root_known;
        fresh = root_fresh;
        reply = root_reply;
        usual = f.rules.entering.usual;
        usual_new = f.rules.entering.usual_new;
        usual_in = f.rules.input.usual;
        usual_forward = f.rules.forward.usual;
        mangle_prerouting = stands_of Mangle Prerouting false f.arriving _ 0 f.rules.entering.are (laying.mangle_prerouting k.marks known fresh reply f.arriving f.sending f.delivering f.forwarding f.sent);
        mangle_input = laying.mangle_input k.marks known fresh reply f.arriving f.sending f.delivering f.forwarding f.sent;
        mangle_forward = laying.mangle_forward k.marks known fresh reply f.arriving f.sending f.delivering f.forwarding f.sent;
        mangle_output = stands_of Mangle Output false f.sending _ 3 f.rules.host (laying.mangle_output k.marks known fresh reply f.arriving f.sending f.delivering f.forwarding f.sent);
        mangle_postrouting = laying.mangle_postrouting k.marks known fresh reply f.arriving f.sending f.delivering f.forwarding f.sent;
        nat_prerouting_at = _;
        nat_prerouting = laying.nat_prerouting k.marks known fresh reply f.arriving f.sending f.delivering f.forwarding f.sent known_users fresh_users;
        nat_input_at = _;
        nat_input = laying.nat_input k.marks known fresh reply f.arriving f.sending f.delivering f.forwarding f.sent known_users fresh_users;
        nat_output_at = _;
        nat_output = laying.nat_output k.marks known fresh reply f.arriving f.sending f.delivering f.forwarding f.sent known_users fresh_users;
        nat_postrouting_at = _;
        nat_postrouting = laying.nat_postrouting k.marks known fresh reply f.arriving f.sending f.delivering f.forwarding f.sent known_users fresh_users;
        filter_input_at = length before;
        filter_input = stands_of Filter Input true f.delivering _ (length before) f.rules.input.are (laying.filter_input k.marks known fresh reply f.arriving f.sending f.delivering f.forwarding f.sent known_users fresh_users);
        filter_input_low = subst (λ m. m < draft.filter + 3) (ap length (append-nil before)) (low [] (omega arith));
        filter_forward_at = _;
        filter_forward = stands_of Filter Forward true f.forwarding _ _ f.rules.forward.are (laying.filter_forward k.marks known fresh reply f.arriving f.sending f.delivering f.forwarding f.sent known_users fresh_users);
        filter_forward_low = low (builtin Filter Input true f.delivering ∷ []) (omega arith);
        filter_output_at = _;
        filter_output = stands_of Filter Output true f.sent _ _ f.rules.output (laying.filter_output k.marks known fresh reply f.arriving f.sending f.delivering f.forwarding f.sent known_users fresh_users);
        filter_output_low = low (builtin Filter Input true f.delivering ∷ builtin Filter Forward true f.forwarding ∷ []) (omega arith);
      }
