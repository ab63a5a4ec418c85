-- The words of a rule are plain.
use Rattle.std.proofs.Common.{◌≡◌, ℕ, ◌+◌, ◌-◌, ◌≤◌, Bool, true, false, cond, ◌&&◌, ◌||◌, not, nat_eq, nat_le, slice_get, Option, Some, None, is_some, List, [], ◌∷◌, ◌++◌, length, codes, decimal, refl, ap, ◌∙◌, inl, inr, arith}
use Rattle.std.proofs.lemmas.Bool.{and_from, and_parts, or_cases, leb-true, cond_both}
use Rattle.std.proofs.lemmas.List.Folds.{list_all-append}
use Rattle.std.proofs.lemmas.Slice.Eq.{bytes_eq-Decides}
use Rattle.std.specs.List.{flat_map, list_all, list_any}
use Rattle.std.specs.Option.{option_map_or}
use Rattle.std.specs.Str.{bytes_eq}
use Rattle.fws_num.specs.Named.{named_in}
use Rattle.fws_num.specs.Numbers.{dotted}
use Rattle.fws_num.specs.Written.{is_plain}
use Rattle.fws_iv.specs.declared.iv.Iv.{Iv}
use Rattle.fws_net.specs.declared.condition.Lit.{Lit}
use Rattle.fws_net.specs.declared.condition.Test.{Test}
use Rattle.fws_net.specs.declared.condition.Test.TheVariants.{Src, Dst, Sport, Dport, Proto, Icmp, Flags, AnyFlag, Recv, Xmit, Via, Outward, Est, Tag, Never}
use Rattle.fws_net.specs.declared.site.Site.{Site}
use Rattle.fws_net.specs.SiteLaws.{IsOrderly}
use Rattle.fws_net.specs.SiteSpelling.{net_word}
use Rattle.fws_net.specs.declared.packet.Lang.TheVariants.{Iptables}
use Rattle.fws_rules.specs.Names.{interface_name}
use Rattle.fws_ipt.specs.declared.config.IptGo.{IptGo}
use Rattle.fws_ipt.specs.declared.config.IptGo.TheVariants as acts
use Rattle.fws_ipt.specs.declared.config.IptChain.{IptChain}
use Rattle.fws_ipt.specs.declared.hook.Hook.{Hook}
use Rattle.fws_ipt.specs.Hooks.{hook_named, hooks}
use Rattle.fws_ipt.specs.Soundness.{is_named}
use Rattle.fws_ipt.specs.Spelled.{asks_ports, asks_protocol}
use Rattle.fws_print.specs.Sets.{is_number}
use Rattle.fws_ipt_print.specs.Printable.{are_ports, is_chain_name, is_class, is_printed_act, is_printed_chain, is_printed_literal, is_printed_policy, is_printed_rule, is_printed_test}
use Rattle.fws_print.specs.Words.{protocol_name}
use Rattle.fws_ipt_print.specs.PrintedText.{act_words, chain_name, end_word, first_part, flags_word, free_bits, literal_words, mark_word, port_module, port_words, range_word, ranges_word, test_words}
use Rattle.fws_ipt_print.proofs.Basics.{never}
use Rattle.fws_ipt_print.proofs.Chains.{all_at, builtin_known, known_at, policy_builtin}
use Rattle.fws_ipt_print.proofs.Conditions.{some_number}
use Rattle.fws_ipt_print.proofs.Laws.{Laws}
use Rattle.fws_ipt_print.proofs.Marks.{mark_plain}
use Rattle.fws_ipt_print.proofs.PlainNames.{chain_name_bytes, chain_name_some}
use Rattle.fws_ipt_print.proofs.Plain.{address_plain, joined_plain, number_plain, plain_append, plain_some}
use Rattle.fws_ipt_print.proofs.PortLists.{list_plain}
use Rattle.fws_ipt_print.proofs.Values.{end_plain, flags_plain, net_plain, protocol_plain, range_plain}

more : (w : List ℕ) (ws : List (List ℕ)) → is_plain w ≡ true → list_all is_plain ws ≡ true → list_all is_plain (w ∷ ws) ≡ true
more w ws h k = and_from (is_plain w) (list_all is_plain ws) h k

-- Names of chains

named_test : {X : Type 0} (p : List ℕ → Bool) (rows : List (List ℕ × X)) (name : List ℕ) (x : X) → list_all (λ row. p row.0) rows ≡ true → named_in rows name ≡ Some x → p name ≡ true
named_test p [] name x h e = absurd cc
named_test p (row ∷ rows) name x h e =
    let parts = and_parts (p row.0) (list_all (λ row. p row.0) rows) h in
    step (bytes_eq name row.0) refl parts.0 parts.1 e (named_test p rows name x)
  where
    step : (b : Bool) → bytes_eq name row.0 ≡ b → p row.0 ≡ true → list_all (λ row. p row.0) rows ≡ true → cond b (Some row.1) (named_in rows name) ≡ Some x
        → (list_all (λ row. p row.0) rows ≡ true → named_in rows name ≡ Some x → p name ≡ true) → p name ≡ true
    step true is own others found rest = ap p ((bytes_eq-Decides name row.0).0 is) ∙ own
    step false is own others found rest = rest others found

hook_plain : (name : List ℕ) (k : Hook) → hook_named name ≡ Some k → is_plain name ≡ true
unfolding hook_named
hook_plain name k e = named_test is_plain hooks name k refl e

pub name_of_chain : (site : Site) (all : List IptChain) (chain : IptChain) → is_named chain ≡ true → is_printed_chain site all chain ≡ true → is_plain chain.name ≡ true
name_of_chain site all chain named h =
    let rules = list_all (is_printed_rule site all chain) chain.rules in
    let front = and_parts ((is_some chain.policy || is_chain_name chain.name) && is_printed_policy chain.table chain.policy) rules h in
    let first = and_parts (is_some chain.policy || is_chain_name chain.name) (is_printed_policy chain.table chain.policy) front.0 in
    elim (or_cases (is_some chain.policy) (is_chain_name chain.name) first.0) [
      | inl e ↦ (let at = builtin_known chain.table chain.name (policy_builtin chain named e) in hook_plain chain.name at.0 at.1)
      | inr e ↦ plain_some chain.name (chain_name_some chain.name e) (chain_name_bytes chain.name e)
    ]

module _ (laws : Laws) (site : Site) (orderly : IsOrderly site) where
  -- Tests

  addresses_plain : (prefix range : List ℕ) (iv : Iv) (free : Option ℕ) → is_plain prefix ≡ true → is_plain range ≡ true
      → list_all is_plain (option_map_or (λ bits. prefix ∷ net_word iv.lo (32 - bits) ∷ []) free (codes "-m" ∷ codes "iprange" ∷ range ∷ (dotted iv.lo ++ 45 ∷ dotted iv.hi) ∷ [])) ≡ true
  addresses_plain prefix range iv None h k =
      more range ((dotted iv.lo ++ 45 ∷ dotted iv.hi) ∷ []) k
      (more (dotted iv.lo ++ 45 ∷ dotted iv.hi) [] (joined_plain laws 45 (dotted iv.lo) (dotted iv.hi) refl (address_plain laws iv.lo) (address_plain laws iv.hi)) refl)
  addresses_plain prefix range iv (Some bits) h k =
      more prefix (net_word iv.lo (32 - bits) ∷ []) h (more (net_word iv.lo (32 - bits)) [] (net_plain laws iv.lo (32 - bits)) refl)

  module_plain : (lits : List Lit) → is_plain (port_module lits) ≡ true
  module_plain lits = cond_both (asks_protocol 6 lits) (codes "tcp") (codes "udp") (λ text. is_plain text ≡ true) (λ e. refl) (λ e. refl)

  ports_plain : (lits : List Lit) (one many : List ℕ) (set : List Iv) → is_plain one ≡ true → is_plain many ≡ true → are_ports set ≡ true
      → list_all is_plain (port_words (port_module lits) one many set) ≡ true
  ports_plain lits one many [] h k some = never some
  ports_plain lits one many (iv ∷ []) h k some =
      more (port_module lits) (one ∷ range_word iv ∷ []) (module_plain lits)
      (more one (range_word iv ∷ []) h (more (range_word iv) [] (range_plain laws iv) refl))
  ports_plain lits one many (iv ∷ next ∷ set) h k some =
      more many (ranges_word (iv ∷ next ∷ set) ∷ []) k
      (more (ranges_word (iv ∷ next ∷ set)) [] (list_plain laws iv (next ∷ set)) refl)

  entry_plain : (shows : Bool) (set : List Iv) → (shows && is_number (length site.faces + 1) set && not (list_any (λ iv. nat_eq iv.lo 0) set)) ≡ true
      → is_plain (interface_name Iptables site (first_part set).lo) ≡ true
  entry_plain shows [] h = never (and_parts shows false (and_parts (shows && false) _ h).0).1
  entry_plain shows (iv ∷ []) h =
      let most = length site.faces + 1 in
      let parts = and_parts (shows && is_number most (iv ∷ [])) (not (list_any (λ iv. nat_eq iv.lo 0) (iv ∷ []))) h in
      let one = some_number most iv (and_from (is_number most (iv ∷ [])) (not (list_any (λ iv. nat_eq iv.lo 0) (iv ∷ []))) (and_parts shows (is_number most (iv ∷ [])) parts.0).1 parts.1) in
      let low : iv.lo ≤ length site.faces + 1 = (let same : iv.lo ≡ iv.hi = one.1 in let high : iv.hi ≤ length site.faces + 1 = one.2 in omega arith) in
      (laws.named Iptables site orderly).plain iv.lo one.0 low
  entry_plain shows (iv ∷ next ∷ set) h = never (and_parts shows false (and_parts (shows && false) _ h).0).1

  test_plain : (shows : Bool) (lits : List Lit) (negated : Bool) (test : Test) → is_printed_test site shows lits test ≡ true → list_all is_plain (test_words site lits negated test) ≡ true
  test_plain shows lits negated (Proto set) h = more (protocol_name (first_part set).lo) [] (protocol_plain laws (first_part set).lo) refl
  test_plain shows lits negated (Src set) h = addresses_plain (codes "-s") (codes "--src-range") (first_part set) (free_bits (first_part set)) refl refl
  test_plain shows lits negated (Dst set) h = addresses_plain (codes "-d") (codes "--dst-range") (first_part set) (free_bits (first_part set)) refl refl
  test_plain shows lits negated (Sport set) h = ports_plain lits (codes "--sport") (codes "--sports") set refl refl (and_parts (asks_ports lits) _ h).1
  test_plain shows lits negated (Dport set) h = ports_plain lits (codes "--dport") (codes "--dports") set refl refl (and_parts (asks_ports lits) _ h).1
  test_plain shows lits negated (Flags mask want) h =
      let last = and_parts (asks_protocol 6 lits && nat_le mask 63) (nat_le want 63) h in
      let first = and_parts (asks_protocol 6 lits) (nat_le mask 63) last.0 in
      more (flags_word mask) (flags_word want ∷ []) (flags_plain mask (leb-true mask 63 first.1)) (more (flags_word want) [] (flags_plain want (leb-true want 63 last.1)) refl)
  test_plain shows lits negated (Icmp set) h = more (decimal (first_part set).lo) [] (number_plain laws (first_part set).lo) refl
  test_plain shows lits negated (Recv set) h = more (interface_name Iptables site (first_part set).lo) [] (entry_plain shows set h) refl
  test_plain shows lits true Est h = refl
  test_plain shows lits false Est h = refl
  test_plain shows lits negated (Tag n) h = more (mark_word n) [] (mark_plain n) refl
  test_plain shows lits negated (AnyFlag mask) h = never h
  test_plain shows lits negated (Xmit set) h = never h
  test_plain shows lits negated (Via set) h = never h
  test_plain shows lits negated Outward h = never h
  test_plain shows lits negated Never h = never h

  lits_plain : (shows : Bool) (lits some : List Lit) → list_all (is_printed_literal site shows lits) some ≡ true → list_all is_plain (flat_map (literal_words site lits) some) ≡ true
  lits_plain shows lits [] h = refl
  lits_plain shows lits (lit ∷ some) h =
      let parts = and_parts (is_printed_literal site shows lits lit) (list_all (is_printed_literal site shows lits) some) h in
      let own = (and_parts (not lit.not || is_class lit.test) (is_printed_test site shows lits lit.test) parts.0).1 in
      list_all-append is_plain (literal_words site lits lit) (flat_map (literal_words site lits) some)
      ∙ and_from (list_all is_plain (literal_words site lits lit)) (list_all is_plain (flat_map (literal_words site lits) some)) (test_plain shows lits lit.not lit.test own) (lits_plain shows lits some parts.1)

  -- Acts

  act_plain : (all : List IptChain) (chain : IptChain) (lits : List Lit) (go : IptGo) → list_all (λ chain. is_plain chain.name) all ≡ true → is_printed_act all chain lits go ≡ true
      → list_all is_plain (act_words all go) ≡ true
  act_plain all chain lits acts.Accept named h = refl
  act_plain all chain lits acts.Drop named h = refl
  act_plain all chain lits (acts.Goto c) named h =
      let at = known_at (slice_get all c) chain.table h in
      let is : chain_name all c ≡ at.0.name = ap (λ o. option_map_or (λ chain. chain.name) o []) at.1 in
      more (chain_name all c) [] (ap is_plain is ∙ all_at (λ chain. is_plain chain.name) all c at.0 at.1 named) refl
  act_plain all chain lits (acts.Mark v) named h = more (mark_word v ++ codes "/0xffffffff") [] (plain_append (mark_word v) (codes "/0xffffffff") (mark_plain v) refl) refl
  act_plain all chain lits (acts.Source e) named h = more (end_word e) [] (end_plain laws e.addr e.port) refl
  act_plain all chain lits (acts.Dest e) named h = more (end_word e) [] (end_plain laws e.addr e.port) refl
  act_plain all chain lits (acts.Netmap net) named h = more (net_word net.addr net.len) [] (net_plain laws net.addr net.len) refl
  act_plain all chain lits acts.Return named h = never h
  act_plain all chain lits acts.Next named h = never h
  act_plain all chain lits (acts.Jump c) named h = never h
  act_plain all chain lits acts.Masquerade named h = never h
  act_plain all chain lits (acts.Redirect port) named h = never h

  pub rule_plain : (all : List IptChain) (chain : IptChain) (shows : Bool) (lits : List Lit) (go : IptGo) → list_all (λ chain. is_plain chain.name) all ≡ true
      → list_all (is_printed_literal site shows lits) lits ≡ true → is_printed_act all chain lits go ≡ true → list_all is_plain (flat_map (literal_words site lits) lits ++ act_words all go) ≡ true
  rule_plain all chain shows lits go named printed h =
      list_all-append is_plain (flat_map (literal_words site lits) lits) (act_words all go)
      ∙ and_from (list_all is_plain (flat_map (literal_words site lits) lits)) (list_all is_plain (act_words all go)) (lits_plain shows lits lits printed) (act_plain all chain lits go named h)
