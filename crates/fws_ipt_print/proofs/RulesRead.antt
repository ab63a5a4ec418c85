-- The words of a rule are read as that rule.
use Rattle.std.proofs.Common.{◌≡◌, ℕ, ◌-◌, ◌%◌, ◌^◌, ◌<◌, ◌≤◌, Bool, true, false, cond, ◌&&◌, ◌||◌, not, nat_eq, nat_le, nat_lt, Option, Some, None, is_some, option_and_then, ok_or, Result, Ok, Err, List, [], ◌∷◌, ◌++◌, map, codes, refl, ap, ◌∙◌, inl, inr}
use Rattle.std.proofs.lemmas.Bool.{and_parts, or_from, or_cases, leb-true, ltb-true, eqb-true}
use Rattle.std.specs.List.{flat_map, list_all}
use Rattle.std.specs.Option.{option_map_or}
use Rattle.fws_num.specs.declared.prefix.Prefix.{Prefix}
use Rattle.fws_num.specs.Words.{plain_word}
use Rattle.fws_num.specs.Written.{is_plain}
use Rattle.fws_net.specs.contracts.outcome.End.{the_row}
use Rattle.fws_net.specs.declared.cause.Cause.{Cause}
use Rattle.fws_net.specs.declared.cause.Cause.TheVariants.{Syntax, LeftOut, Backward, Shape}
use Rattle.fws_net.specs.declared.condition.Lit.{Lit}
use Rattle.fws_net.specs.declared.outcome.End.{End}
use Rattle.fws_net.specs.declared.site.Site.{Site}
use Rattle.fws_net.specs.Causes.{unless}
use Rattle.fws_net.specs.Ends.{host_end}
use Rattle.fws_net.specs.Reading.{and_then}
use Rattle.fws_net.specs.SiteLaws.{IsOrderly}
use Rattle.fws_net.specs.SiteSpelling.{net_word}
use Rattle.fws_ipt.specs.declared.config.IptTable.{IptTable}
use Rattle.fws_ipt.specs.declared.config.IptTable.TheVariants.{Filter, Nat, Mangle}
use Rattle.fws_ipt.specs.declared.config.IptGo.{IptGo}
use Rattle.fws_ipt.specs.declared.config.IptGo.TheVariants as acts
use Rattle.fws_ipt.specs.declared.config.IptRule.{IptRule}
use Rattle.fws_ipt.specs.declared.config.IptChain.{IptChain}
use Rattle.fws_ipt.specs.declared.hook.Hook.{Hook}
use Rattle.fws_ipt.specs.declared.hook.Hook.TheVariants.{Prerouting, Input, Forward, Output, Postrouting}
use Rattle.fws_ipt.specs.declared.words.TargetOption.TheVariants as options
use Rattle.fws_ipt.specs.declared.words.TargetWord.{TargetWord}
use Rattle.fws_ipt.specs.declared.words.TargetWord.TheVariants as targets
use Rattle.fws_ipt.specs.declared.draft.Expects.TheVariants as expect
use Rattle.fws_ipt.specs.declared.draft.RuleDraft.{RuleDraft}
use Rattle.fws_ipt.specs.Options.{other_keyword, target_option, target_word, test_option}
use Rattle.fws_ipt.specs.RuleText.{expecting, fresh_rule, is_loose, is_misplaced, is_protocol, lacks_protocol, named_len, rule_made, rule_of, user_chain}
use Rattle.fws_ipt.specs.Soundness.{is_user_chain}
use Rattle.fws_ipt.specs.Spelled.{asks_ports, asks_protocol, is_network, names_block}
use Rattle.fws_ipt.specs.Values.{network_of, place_of, set_whole, xmark_value}
use Rattle.fws_ipt.specs.Walk.{is_table, writes_dst_at, writes_src_at}
use Rattle.fws_ipt_print.specs.Printable.{are_different, is_end, is_printed_act, is_printed_literal, maps_block, shows_receiving, stands_where}
use Rattle.fws_ipt_print.specs.PrintedText.{act_words, chain_name, end_word, literal_words, mark_word}
use Rattle.fws_ipt_print.proofs.Basics.{never, then_ok}
use Rattle.fws_ipt_print.proofs.Conditions.{flags_asked, icmp_asked, lits_taken, ports_asked, told_known, told_lits}
use Rattle.fws_ipt_print.proofs.Fields.{destination_named, protocol_named, source_named}
use Rattle.fws_ipt_print.proofs.Keys.{all_told, fresh_first, is_known, unknown_fresh}
use Rattle.fws_ipt_print.proofs.Laws.{Laws}
use Rattle.fws_ipt_print.proofs.Marks.{masked_read}
use Rattle.fws_ipt_print.proofs.Told.{Told, none_told, shown, texts_read, word_then, words_by_texts}
use Rattle.fws_ipt_print.proofs.Values.{network_read, place_read}

-- Ends

-- a whole address as a rule may write it
record IsHostEnd (e : End) : Type 0 where
  whole : e.len ≡ 32
  within : e.addr < 2 ^ 32
  port : option_map_or (λ port. nat_le port 65535) e.port true ≡ true

record IsNet (net : Prefix) : Type 0 where
  within : net.addr < 2 ^ 32
  some : 1 ≤ net.len
  short : net.len ≤ 32
  clear : net.addr % 2 ^ (32 - net.len) ≡ 0

host_same : (e : End) → e.len ≡ 32 → host_end e.addr e.port ≡ e
host_same e h = (the_row).coded.inj (host_end e.addr e.port) e (rw h refl)

-- a draft behind its target
abbrev acted : TargetWord → IptGo → List (List ℕ) → Bool → Told → RuleDraft
acted target go given has_port t = record (shown t) { given = given; target = Some target; go = go; has_port = has_port; is_open = true }

module _ (laws : Laws) (site : Site) (table : IptTable) (chains : List IptChain) (all : List IptChain) where
  abbrev read : RuleDraft → List (List ℕ) → Result RuleDraft Cause
  read d texts = texts_read site table chains d texts

  accept_read : (t : Told) → read (shown t) (act_words all acts.Accept) ≡ Ok (acted targets.Accept acts.Accept t.given t.has_port t)
  unfolding test_option other_keyword target_word
  accept_read t = refl

  drop_read : (t : Told) → read (shown t) (act_words all acts.Drop) ≡ Ok (acted targets.Drop acts.Drop t.given t.has_port t)
  unfolding test_option other_keyword target_word
  drop_read t = refl

  goto_read : (c : ℕ) (t : Told) → user_chain table chains (chain_name all c) ≡ Ok c
      → read (shown t) (act_words all (acts.Goto c)) ≡ Ok (acted targets.Chain (acts.Goto c) t.given t.has_port t)
  unfolding test_option other_keyword
  goto_read c t h =
      let first : RuleDraft = expecting expect.Chain (shown t) in
      word_then site table chains (chain_name all c) [] first (acted targets.Chain (acts.Goto c) t.given t.has_port t)
      (then_ok (user_chain table chains (chain_name all c)) _ c _ h refl)

  mark_read : (v : ℕ) (t : Told) → v < 2 ^ 32 → list_all is_known t.given ≡ true
      → read (shown t) (act_words all (acts.Mark v)) ≡ Ok (acted targets.Mark (acts.Mark v) (t.given ++ codes "--set-xmark" ∷ []) (t.has_port) t)
  unfolding test_option other_keyword target_option target_word
  mark_read v t h known =
      let word = mark_word v ++ codes "/0xffffffff" in
      let given = t.given ++ codes "--set-xmark" ∷ [] in
      let first : RuleDraft = record (shown t) { target = Some targets.Mark; go = acts.Next; is_open = true; owes = true } in
      let second : RuleDraft = record first { given = given; expects = expect.TargetValue options.SetXmark; owes = false } in
      word_then site table chains (codes "--set-xmark") (word ∷ []) first second
      (ap (λ b. and_then (cond b (Err Syntax) (Ok (record first { given = given }))) (λ (e : RuleDraft). Ok (record e { expects = expect.TargetValue options.SetXmark; owes = false })))
      (unknown_fresh (codes "--set-xmark") t.given refl known))
      ∙ word_then site table chains word [] second (acted targets.Mark (acts.Mark v) given (t.has_port) t)
      (then_ok (xmark_value word) _ v _ (ap (λ o. and_then (ok_or o Syntax) set_whole) (masked_read laws.splits v h)) refl)

  source_read : (e : End) (t : Told) → IsHostEnd e → list_all is_known t.given ≡ true
      → read (shown t) (act_words all (acts.Source e)) ≡ Ok (acted targets.Source (acts.Source e) (t.given ++ codes "--to-source" ∷ []) (t.has_port || is_some e.port) t)
  unfolding test_option other_keyword target_option target_word
  source_read e t h known =
      let word = end_word e in
      let given = t.given ++ codes "--to-source" ∷ [] in
      let first : RuleDraft = record (shown t) { target = Some targets.Source; go = acts.Next; is_open = true; owes = true } in
      let second : RuleDraft = record first { given = given; expects = expect.TargetValue options.ToSource; owes = false } in
      word_then site table chains (codes "--to-source") (word ∷ []) first second
      (ap (λ b. and_then (cond b (Err Syntax) (Ok (record first { given = given }))) (λ (e : RuleDraft). Ok (record e { expects = expect.TargetValue options.ToSource; owes = false })))
      (unknown_fresh (codes "--to-source") t.given refl known))
      ∙ word_then site table chains word [] second (acted targets.Source (acts.Source e) given (t.has_port || is_some e.port) t)
      (then_ok (place_of word) _ (e.addr, e.port) _ (place_read laws e.addr e.port h.within h.port) (ap (λ (x : End). Ok (acted targets.Source (acts.Source x) given (t.has_port || is_some e.port) t)) (host_same e h.whole)))

  dest_read : (e : End) (t : Told) → IsHostEnd e → list_all is_known t.given ≡ true
      → read (shown t) (act_words all (acts.Dest e)) ≡ Ok (acted targets.Destination (acts.Dest e) (t.given ++ codes "--to-destination" ∷ []) (t.has_port || is_some e.port) t)
  unfolding test_option other_keyword target_option target_word
  dest_read e t h known =
      let word = end_word e in
      let given = t.given ++ codes "--to-destination" ∷ [] in
      let first : RuleDraft = record (shown t) { target = Some targets.Destination; go = acts.Next; is_open = true; owes = true } in
      let second : RuleDraft = record first { given = given; expects = expect.TargetValue options.ToDestination; owes = false } in
      word_then site table chains (codes "--to-destination") (word ∷ []) first second
      (ap (λ b. and_then (cond b (Err Syntax) (Ok (record first { given = given }))) (λ (e : RuleDraft). Ok (record e { expects = expect.TargetValue options.ToDestination; owes = false })))
      (unknown_fresh (codes "--to-destination") t.given refl known))
      ∙ word_then site table chains word [] second (acted targets.Destination (acts.Dest e) given (t.has_port || is_some e.port) t)
      (then_ok (place_of word) _ (e.addr, e.port) _ (place_read laws e.addr e.port h.within h.port) (ap (λ (x : End). Ok (acted targets.Destination (acts.Dest x) given (t.has_port || is_some e.port) t)) (host_same e h.whole)))

  netmap_read : (net : Prefix) (t : Told) → IsNet net → list_all is_known t.given ≡ true
      → read (shown t) (act_words all (acts.Netmap net)) ≡ Ok (acted targets.Netmap (acts.Netmap net) (t.given ++ codes "--to" ∷ []) (t.has_port) t)
  unfolding test_option other_keyword target_option target_word
  netmap_read net t h known =
      let word = net_word net.addr net.len in
      let given = t.given ++ codes "--to" ∷ [] in
      let first : RuleDraft = record (shown t) { target = Some targets.Netmap; go = acts.Next; is_open = true; owes = true } in
      let second : RuleDraft = record first { given = given; expects = expect.TargetValue options.ToNetwork; owes = false } in
      word_then site table chains (codes "--to") (word ∷ []) first second
      (ap (λ b. and_then (cond b (Err Syntax) (Ok (record first { given = given }))) (λ (e : RuleDraft). Ok (record e { expects = expect.TargetValue options.ToNetwork; owes = false })))
      (unknown_fresh (codes "--to") t.given refl known))
      ∙ word_then site table chains word [] second (acted targets.Netmap (acts.Netmap net) given (t.has_port) t)
      (then_ok (network_of word) _ net _ (network_read laws net h.within h.some h.short h.clear) refl)

-- Checks of the whole rule

implied : (x y : Bool) → (x ≡ true → y ≡ true) → (x && not y) ≡ false
implied false y h = refl
implied true y h = ap not (h refl)

either_true : (x y : Bool) → y ≡ true → (x || y) ≡ true
either_true true y h = refl
either_true false y h = h

asked_either : (a b x y : Bool) → (a ≡ true → x ≡ true) → (b ≡ true → y ≡ true) → (a || b) ≡ true → (x || y) ≡ true
asked_either a b x y f g h =
    elim (or_cases a b h) [
      | inl e ↦ ap (λ v. v || y) (f e)
      | inr e ↦ either_true x y (g e)
    ]

made : (table : IptTable) (hook : Option Hook) (target : TargetWord) (go : IptGo) (given : List (List ℕ)) (has_port : Bool) (t : Told)
    → is_misplaced table target ≡ false → is_loose hook (acted target go given has_port t) go ≡ false → lacks_protocol (acted target go given has_port t) ≡ false
    → rule_made table hook (acted target go given has_port t) ≡ Ok (record { cond = t.lits; go = go })
made table hook target go given has_port t placed tight shaped =
    let rule : IptRule = record { cond = t.lits; go = go } in
    ap (λ b. unless (cond (b || is_loose hook (acted target go given has_port t) go || false) (Some LeftOut) (cond false (Some Backward) (cond (lacks_protocol (acted target go given has_port t)) (Some Shape) None))) rule) placed
    ∙ ap (λ b. unless (cond (false || b || false) (Some LeftOut) (cond (lacks_protocol (acted target go given has_port t)) (Some Shape) None)) rule) tight
    ∙ ap (λ b. unless (cond b (Some Shape) None) rule) shaped

accept_placed : (table : IptTable) → is_misplaced table targets.Accept ≡ false
accept_placed Filter = refl
accept_placed Nat = refl
accept_placed Mangle = refl

chain_placed : (table : IptTable) → is_misplaced table targets.Chain ≡ false
chain_placed Filter = refl
chain_placed Nat = refl
chain_placed Mangle = refl

drop_placed : (table : IptTable) → not (is_table Nat table) ≡ true → is_misplaced table targets.Drop ≡ false
drop_placed Filter h = refl
drop_placed Nat h = never h
drop_placed Mangle h = refl

mark_placed : (table : IptTable) → is_table Mangle table ≡ true → is_misplaced table targets.Mark ≡ false
mark_placed Filter h = never h
mark_placed Nat h = never h
mark_placed Mangle h = refl

source_placed : (table : IptTable) → is_table Nat table ≡ true → is_misplaced table targets.Source ≡ false
source_placed Filter h = never h
source_placed Nat h = refl
source_placed Mangle h = never h

dest_placed : (table : IptTable) → is_table Nat table ≡ true → is_misplaced table targets.Destination ≡ false
dest_placed Filter h = never h
dest_placed Nat h = refl
dest_placed Mangle h = never h

netmap_placed : (table : IptTable) → is_table Nat table ≡ true → is_misplaced table targets.Netmap ≡ false
netmap_placed Filter h = never h
netmap_placed Nat h = refl
netmap_placed Mangle h = never h

-- a port asks for what the condition asks for
port_asks : (ports : Bool) (port : Option ℕ) → option_map_or (λ port. nat_le port 65535 && ports) port true ≡ true
    → (option_map_or (λ port. nat_le port 65535) port true ≡ true) × (is_some port ≡ true → ports ≡ true)
port_asks ports None h = (refl, never)
port_asks ports (Some port) h = (let parts = and_parts (nat_le port 65535) ports h in (parts.0, λ e. parts.1))

-- where the chain of a rule stands
abbrev pub Hooked : Option Hook → IptChain → Type 0
Hooked hook chain = (such : Hook → Bool) → stands_where such chain ≡ true → (k : Hook) × (hook ≡ Some k) × (such k ≡ true)

-- chains of the user's are found by their names
abbrev pub Found : List IptChain → List IptChain → IptTable → Type 0
Found all chains table = (c : ℕ) → is_user_chain table all c ≡ true → user_chain table chains (chain_name all c) ≡ Ok c

module _ (laws : Laws) (site : Site) (orderly : IsOrderly site) (all : List IptChain) (chains : List IptChain) (chain : IptChain) (hook : Option Hook) (hooked : Hooked hook chain)
    (named : Found all chains chain.table) (lits : List Lit) (printed : list_all (is_printed_literal site (shows_receiving chain) lits) lits ≡ true) (differ : are_different lits ≡ true) where
  abbrev t : Told
  t = all_told lits none_told

  known : list_all is_known t.given ≡ true
  known = told_known laws site orderly chain.table chains (shows_receiving chain) lits lits none_told printed refl

  names : (n : ℕ) → asks_protocol n lits ≡ true → is_protocol n t.protocol ≡ true
  names n h = protocol_named n lits none_told differ h

  shaped : (target : TargetWord) (go : IptGo) (given : List (List ℕ)) (has_port : Bool) → (has_port ≡ true → asks_ports lits ≡ true) → lacks_protocol (acted target go given has_port t) ≡ false
  shaped target go given has_port asks =
      let p = t.protocol in
      or_from ((has_port && not (is_protocol 6 p || is_protocol 17 p)) || (t.has_flags && not (is_protocol 6 p))) (t.has_icmp && not (is_protocol 1 p))
      (or_from (has_port && not (is_protocol 6 p || is_protocol 17 p)) (t.has_flags && not (is_protocol 6 p))
      (implied has_port (is_protocol 6 p || is_protocol 17 p)
      (λ e. asked_either (asks_protocol 6 lits) (asks_protocol 17 lits) (is_protocol 6 p) (is_protocol 17 p) (names 6) (names 17) (asks e)))
      (implied t.has_flags (is_protocol 6 p) (λ e. names 6 (flags_asked laws site orderly chain.table chains (shows_receiving chain) lits lits printed e))))
      (implied t.has_icmp (is_protocol 1 p) (λ e. names 1 (icmp_asked laws site orderly chain.table chains (shows_receiving chain) lits lits printed e)))

  ports : t.has_port ≡ true → asks_ports lits ≡ true
  ports e = ports_asked laws site orderly chain.table chains (shows_receiving chain) lits lits printed e

  ports_more : (more : Bool) → (more ≡ true → asks_ports lits ≡ true) → (t.has_port || more) ≡ true → asks_ports lits ≡ true
  ports_more more h e = elim (or_cases t.has_port more e) [ inl k ↦ ports k | inr k ↦ h k ]

  kept : (k : Hook) (net : Prefix) (given : List (List ℕ)) → net.len ≤ 32 → names_block k net.len lits ≡ true
      → option_map_or (nat_le net.len) (named_len (acted targets.Netmap (acts.Netmap net) given t.has_port t) k) false ≡ true
  kept Prerouting net given short h = destination_named net.len lits none_told short differ h
  kept Output net given short h = destination_named net.len lits none_told short differ h
  kept Input net given short h = source_named net.len lits none_told short differ h
  kept Postrouting net given short h = source_named net.len lits none_told short differ h
  kept Forward net given short h = never h

  host_known : (e : End) → is_end lits e ≡ true → IsHostEnd e × (is_some e.port ≡ true → asks_ports lits ≡ true)
  host_known e h =
      let parts = and_parts (nat_eq e.len 32 && nat_lt e.addr (2 ^ 32)) (option_map_or (λ port. nat_le port 65535 && asks_ports lits) e.port true) h in
      let front = and_parts (nat_eq e.len 32) (nat_lt e.addr (2 ^ 32)) parts.0 in
      let port = port_asks (asks_ports lits) e.port parts.1 in
      (record { whole = eqb-true e.len 32 front.0; within = ltb-true e.addr (2 ^ 32) front.1; port = port.0 }, port.1)

  net_known : (net : Prefix) → (is_network net && nat_lt net.addr (2 ^ 32)) ≡ true → IsNet net
  net_known net h =
      let parts = and_parts (is_network net) (nat_lt net.addr (2 ^ 32)) h in
      let last = and_parts (nat_le 1 net.len && nat_le net.len 32) (nat_eq (net.addr % 2 ^ (32 - net.len)) 0) parts.0 in
      let first = and_parts (nat_le 1 net.len) (nat_le net.len 32) last.0 in
      record {
        within = ltb-true net.addr (2 ^ 32) parts.1;
        some = leb-true 1 net.len first.0;
        short = leb-true net.len 32 first.1;
        clear = eqb-true (net.addr % 2 ^ (32 - net.len)) 0 last.1;
      }

  act_made : (go : IptGo) → is_printed_act all chain lits go ≡ true
      → and_then (texts_read site chain.table chains (shown t) (act_words all go)) (rule_made chain.table hook) ≡ Ok (record { cond = t.lits; go = go })
  act_made acts.Accept h =
      then_ok _ _ (acted targets.Accept acts.Accept t.given t.has_port t) _ (accept_read laws site chain.table chains all t)
      (made chain.table hook targets.Accept acts.Accept t.given t.has_port t (accept_placed chain.table) refl (shaped targets.Accept acts.Accept t.given t.has_port ports))
  act_made acts.Drop h =
      then_ok _ _ (acted targets.Drop acts.Drop t.given t.has_port t) _ (drop_read laws site chain.table chains all t)
      (made chain.table hook targets.Drop acts.Drop t.given t.has_port t (drop_placed chain.table h) refl (shaped targets.Drop acts.Drop t.given t.has_port ports))
  act_made (acts.Goto c) h =
      then_ok _ _ (acted targets.Chain (acts.Goto c) t.given t.has_port t) _ (goto_read laws site chain.table chains all c t (named c h))
      (made chain.table hook targets.Chain (acts.Goto c) t.given t.has_port t (chain_placed chain.table) refl (shaped targets.Chain (acts.Goto c) t.given t.has_port ports))
  act_made (acts.Mark v) h =
      let parts = and_parts (is_table Mangle chain.table) (nat_lt v (2 ^ 32)) h in
      let given = t.given ++ codes "--set-xmark" ∷ [] in
      then_ok _ _ (acted targets.Mark (acts.Mark v) given t.has_port t) _ (mark_read laws site chain.table chains all v t (ltb-true v (2 ^ 32) parts.1) known)
      (made chain.table hook targets.Mark (acts.Mark v) given t.has_port t (mark_placed chain.table parts.0) refl (shaped targets.Mark (acts.Mark v) given t.has_port ports))
  act_made (acts.Source e) h =
      let parts = and_parts (is_table Nat chain.table && stands_where writes_src_at chain) (is_end lits e) h in
      let front = and_parts (is_table Nat chain.table) (stands_where writes_src_at chain) parts.0 in
      let whole = host_known e parts.1 in
      let given = t.given ++ codes "--to-source" ∷ [] in
      let has_port = t.has_port || is_some e.port in
      then_ok _ _ (acted targets.Source (acts.Source e) given has_port t) _ (source_read laws site chain.table chains all e t whole.0 known)
      (made chain.table hook targets.Source (acts.Source e) given has_port t (source_placed chain.table front.0) refl (shaped targets.Source (acts.Source e) given has_port (ports_more (is_some e.port) whole.1)))
  act_made (acts.Dest e) h =
      let parts = and_parts (is_table Nat chain.table && stands_where writes_dst_at chain) (is_end lits e) h in
      let front = and_parts (is_table Nat chain.table) (stands_where writes_dst_at chain) parts.0 in
      let whole = host_known e parts.1 in
      let given = t.given ++ codes "--to-destination" ∷ [] in
      let has_port = t.has_port || is_some e.port in
      then_ok _ _ (acted targets.Destination (acts.Dest e) given has_port t) _ (dest_read laws site chain.table chains all e t whole.0 known)
      (made chain.table hook targets.Destination (acts.Dest e) given has_port t (dest_placed chain.table front.0) refl (shaped targets.Destination (acts.Dest e) given has_port (ports_more (is_some e.port) whole.1)))
  act_made (acts.Netmap net) h =
      let parts = and_parts (is_table Nat chain.table) (maps_block chain lits net) h in
      let maps = and_parts (is_network net && nat_lt net.addr (2 ^ 32)) (stands_where (λ hook. names_block hook net.len lits) chain) parts.1 in
      let is_net = net_known net maps.0 in
      let stands = hooked (λ hook. names_block hook net.len lits) maps.1 in
      let given = t.given ++ codes "--to" ∷ [] in
      let d : RuleDraft = acted targets.Netmap (acts.Netmap net) given t.has_port t in
      let tight : is_loose hook d (acts.Netmap net) ≡ false =
      ap (λ o. not (option_map_or (nat_le net.len) (option_and_then (named_len d) o) false)) stands.1 ∙ ap not (kept stands.0 net given is_net.short stands.2) in
      then_ok _ _ d _ (netmap_read laws site chain.table chains all net t is_net known)
      (made chain.table hook targets.Netmap (acts.Netmap net) given t.has_port t (netmap_placed chain.table parts.0) tight (shaped targets.Netmap (acts.Netmap net) given t.has_port ports))
  act_made acts.Return h = never h
  act_made acts.Next h = never h
  act_made (acts.Jump c) h = never h
  act_made acts.Masquerade h = never h
  act_made (acts.Redirect port) h = never h

  -- the words of a rule are read as it
  pub rule_read : (n : ℕ) (go : IptGo) → is_printed_act all chain lits go ≡ true → list_all is_plain (flat_map (literal_words site lits) lits ++ act_words all go) ≡ true
      → rule_of site chain.table hook chains (map (plain_word n) (flat_map (literal_words site lits) lits ++ act_words all go)) ≡ Ok (record { cond = lits; go = go })
  rule_read n go h plain =
      ap (λ o. and_then o (rule_made chain.table hook))
      (words_by_texts site chain.table chains n (flat_map (literal_words site lits) lits ++ act_words all go) fresh_rule plain
      ∙ lits_taken laws site orderly chain.table chains (shows_receiving chain) lits lits none_told (act_words all go) printed differ (fresh_first lits))
      ∙ act_made go h
      ∙ ap (λ (list : List Lit). let rule : IptRule = record { cond = list; go = go } in Ok rule) (told_lits laws site orderly chain.table chains (shows_receiving chain) lits lits none_told)
