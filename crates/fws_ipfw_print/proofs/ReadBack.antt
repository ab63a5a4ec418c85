-- The lines of rules are read as these, and so the text as the configuration.
use Rattle.std.proofs.Common.{◌≡◌, ℕ, suc, ◌+◌, ◌<◌, ◌≤◌, Bool, true, false, cond, ◌&&◌, ◌||◌, not, nat_eq, nat_le, nat_lt, Some, None, Result, Ok, Err, List, [], ◌∷◌, ◌++◌, map, length, codes, decimal, refl, ap, ap₂, sym, ◌∙◌, append_assoc, append-nil, arith, inl, inr, subst}
use Rattle.std.proofs.lemmas.Bool.{and_from, and_parts, leb-true, ltb-true, ne_eqb, cond_both, cases_Bool, false_from_ne_true}
use Rattle.std.specs.List.{list_all}
use Rattle.std.specs.Option.{option_map_or}
use Rattle.fws_num.specs.declared.comments.Comments.TheVariants.{Ipfw}
use Rattle.fws_num.specs.declared.word.Word.{Word}
use Rattle.fws_num.specs.Lines.{lines_of, numbered}
use Rattle.fws_num.specs.Words.{is_sound}
use Rattle.fws_num.specs.Written.{spaced}
use Rattle.fws_net.specs.declared.cause.Cause.{Cause}
use Rattle.fws_net.specs.declared.cause.Cause.TheVariants.{Syntax, LeftOut, Backward, Shape, Expand}
use Rattle.fws_net.specs.declared.site.Site.{Site}
use Rattle.fws_net.specs.Causes.{checked, unless}
use Rattle.fws_net.specs.Reading.{and_then, lines_read, located}
use Rattle.fws_net.specs.SiteLaws.{IsOrderly}
use Rattle.fws_ipfw.specs.declared.config.IpfwAct.{IpfwAct}
use Rattle.fws_ipfw.specs.declared.config.IpfwAct.TheVariants as acts
use Rattle.fws_ipfw.specs.declared.config.IpfwConfig.{IpfwConfig}
use Rattle.fws_ipfw.specs.declared.config.IpfwNat.{IpfwNat}
use Rattle.fws_ipfw.specs.declared.config.IpfwRule.{IpfwRule}
use Rattle.fws_ipfw.specs.declared.draft.Defined.{Defined}
use Rattle.fws_ipfw.specs.declared.draft.IpfwDraft.{IpfwDraft}
use Rattle.fws_ipfw.specs.declared.draft.RuleDraft.{RuleDraft}
use Rattle.fws_ipfw.specs.FileText.{ahead, by_number, defined_behind, defined_from, ended, fresh_text, is_full, line_step, redirects_named as named_redirects, spelled, rule_line, rule_number, rule_put, unnumbered, with_defined, with_rule}
use Rattle.fws_ipfw.specs.RuleText.{allows, fresh_rule, goes_back, has_ports, may_end, rule_drawn}
use Rattle.fws_ipfw.specs.Soundness.{are_apart, are_ordered, is_check, is_everywhere, leaves_tags}
use Rattle.fws_ipfw_print.specs.Printable.{all_redirects, is_printed_act, is_printed_cond, is_printed_nat, is_printed_rule, is_printed_tag, redirects_named}
use Rattle.fws_ipfw_print.specs.PrintedText.{comment_between, config_lines, config_text, head_lines, name_word, nat_lines, rule_lines, rule_words, sections}
use Rattle.fws_ipfw_print.specs.ReadBack.{PrintedTextsAreRead}
use Rattle.fws_ipfw_print.proofs.Basics.{if_true, never}
use Rattle.fws_ipfw_print.proofs.BodiesRead.{body_texts, RuleTaken, checked_read, everywhere, implied, no_keep, no_tag, tested}
use Rattle.fws_ipfw_print.proofs.Laws.{Laws}
use Rattle.fws_ipfw_print.proofs.LinesTaken.{AreTaken, comment_taken, Defines, is_comment, IsRead, lines_taken, next_taken, none_taken, sound_at, taken_append, text_at}
use Rattle.fws_ipfw_print.proofs.LineWords.{is_writable, word_at, words_by_texts}
use Rattle.fws_ipfw_print.proofs.OptionsRead.{step}
use Rattle.fws_ipfw_print.proofs.RulesRead.{ActFits}
use Rattle.fws_ipfw_print.proofs.Tame.{number_tame, tame_same}
use Rattle.fws_ipfw_print.proofs.ValuesRead.{counted_read}
use Rattle.fws_ipfw_print.proofs.NatLines.{are_others, defined_same, defs, named_same, nat_lines_taken, nats_after, nats_kept, number_within}

-- Drafts behind rules

rules_after : List IpfwNat → IpfwDraft → List IpfwRule → IpfwDraft
rules_after nats d [] = d
rules_after nats d (r ∷ rs) = rules_after nats (with_rule r (d.redirects + redirects_named nats r.act) d) rs

record RulesKept (nats : List IpfwNat) (d : IpfwDraft) (rules : List IpfwRule) : Type 0 where
  rules_are : (rules_after nats d rules).rules ≡ d.rules ++ rules
  nats_are : (rules_after nats d rules).nats ≡ d.nats

rules_kept : (nats : List IpfwNat) (d : IpfwDraft) (rules : List IpfwRule) → RulesKept nats d rules
unfolding rules_after
rules_kept nats d [] = record { rules_are = sym (append-nil d.rules); nats_are = refl }
rules_kept nats d (r ∷ rs) =
    let k = rules_kept nats (with_rule r (d.redirects + redirects_named nats r.act) d) rs in
    record { rules_are = k.rules_are ∙ append_assoc d.rules (r ∷ []) rs; nats_are = k.nats_are }

-- Comments

all_comments : list_all (λ row. is_comment row.1) sections ≡ true
all_comments = refl

between_taken : (site : Site) (known before : List Defined) (d : IpfwDraft) (from to : ℕ) (rows : List (ℕ × List ℕ)) → list_all (λ row. is_comment row.1) rows ≡ true
    → AreTaken site known before d (comment_between from to rows) before d
between_taken site known before d from to [] h = none_taken
between_taken site known before d from to (row ∷ rows) h =
    let parts = and_parts (is_comment row.1) (list_all (λ row. is_comment row.1) rows) h in
    cond_both (nat_lt from row.0 && nat_le row.0 to) (row.1 ∷ []) (comment_between from to rows) (λ lines. AreTaken site known before d lines before d)
    (λ e. comment_taken parts.0 none_taken) (λ e. between_taken site known before d from to rows parts.1)

-- The last rules stand last

ordered_same : (rules : List IpfwRule) → are_ordered rules ≡ true → by_number rules ≡ rules
ordered_same [] h = refl
ordered_same (r ∷ []) h = refl
ordered_same (r ∷ s ∷ ss) h =
    let parts = and_parts (nat_le r.number s.number) (are_ordered (s ∷ ss)) h in
    ap (ahead r) (ordered_same (s ∷ ss) parts.1) ∙ if_true (nat_le r.number s.number) (r ∷ s ∷ ss) (s ∷ ahead r ss) parts.0

-- Checks of a rule

not_full : (act : IpfwAct) (total : ℕ) → total ≤ 200000 → is_full act total ≡ false
not_full acts.Allow total h = refl
not_full acts.Deny total h = refl
not_full acts.Count total h = refl
not_full (acts.Skip n) total h = refl
not_full acts.Check total h = refl
not_full (acts.Nat n) total h = false_from_ne_true (nat_lt 200000 total) (λ e. (let lt : 200000 < total = ltb-true 200000 total e in omega arith))

goes_ahead : (nats : List IpfwNat) (number : ℕ) (act : IpfwAct) → is_printed_act nats number act ≡ true → goes_back number act ≡ false
goes_ahead nats number acts.Allow h = refl
goes_ahead nats number acts.Deny h = refl
goes_ahead nats number acts.Count h = refl
goes_ahead nats number (acts.Skip n) h =
    let lt : number < n = ltb-true number n (and_parts (nat_lt number n) (nat_le n 65534) h).0 in
    false_from_ne_true (nat_le n number) (λ e. (let le : n ≤ number = leb-true n number e in omega arith))
goes_ahead nats number acts.Check h = refl
goes_ahead nats number (acts.Nat n) h = refl

act_fits : (nats : List IpfwNat) (number : ℕ) (act : IpfwAct) → list_all is_printed_nat nats ≡ true → is_check act ≡ false → is_printed_act nats number act ≡ true → ActFits (defs nats) act
act_fits nats number acts.Allow known other h = tt
act_fits nats number acts.Deny known other h = tt
act_fits nats number acts.Count known other h = tt
act_fits nats number (acts.Skip n) known other h =
    let parts = and_parts (nat_lt number n) (nat_le n 65534) h in
    let lt : number < n = ltb-true number n parts.0 in
    (omega arith, leb-true n 65534 parts.1)
act_fits nats number acts.Check known other h = never (sym other)
act_fits nats number (acts.Nat n) known other h = (let is = number_within nats n known h in (is.0, is.1, defined_same nats n ∙ h))

no_check : (act : IpfwAct) → is_check act ≡ true → allows act ≡ false
no_check acts.Allow h = never h
no_check acts.Deny h = refl
no_check acts.Count h = refl
no_check (acts.Skip n) h = refl
no_check acts.Check h = refl
no_check (acts.Nat n) h = refl

check_act : (act : IpfwAct) → is_check act ≡ true → acts.Check ≡ act
check_act acts.Allow h = never h
check_act acts.Deny h = never h
check_act acts.Count h = never h
check_act (acts.Skip n) h = never h
check_act acts.Check h = refl
check_act (acts.Nat n) h = never h

-- what is known of a rule that is printed
record IsPrinted (site : Site) (nats : List IpfwNat) (r : IpfwRule) : Type 0 where
  some : 0 < r.number
  within : r.number ≤ 65534
  condition : is_printed_cond site r.cond ≡ true
  act : is_printed_act nats r.number r.act ≡ true
  tag : is_printed_tag r.tag ≡ true
  keeps : (not r.keep || allows r.act) ≡ true
  alone : (not (is_check r.act) || (is_everywhere r.cond && leaves_tags r.tag)) ≡ true

printed : (site : Site) (nats : List IpfwNat) (r : IpfwRule) → is_printed_rule site nats r ≡ true → IsPrinted site nats r
printed site nats r h =
    let a = nat_lt 0 r.number in
    let b = nat_le r.number 65534 in
    let c = is_printed_cond site r.cond in
    let d = is_printed_act nats r.number r.act in
    let e = is_printed_tag r.tag in
    let f = not r.keep || allows r.act in
    let g = not (is_check r.act) || (is_everywhere r.cond && leaves_tags r.tag) in
    let p6 = and_parts (a && b && c && d && e && f) g h in
    let p5 = and_parts (a && b && c && d && e) f p6.0 in
    let p4 = and_parts (a && b && c && d) e p5.0 in
    let p3 = and_parts (a && b && c) d p4.0 in
    let p2 = and_parts (a && b) c p3.0 in
    let p1 = and_parts a b p2.0 in
    record { some = ltb-true 0 r.number p1.0; within = leb-true r.number 65534 p1.1; condition = p2.1; act = p3.1; tag = p4.1; keeps = p5.1; alone = p6.1 }

module _ (laws : Laws) (site : Site) (orderly : IsOrderly site) (nats : List IpfwNat) (all_printed : list_all is_printed_nat nats ≡ true) where
  abbrev known : List Defined
  known = defs nats

  rule_taken : (r : IpfwRule) → IsPrinted site nats r → RuleTaken site known r
  rule_taken r is =
      elim (cases_Bool (is_check r.act)) [
        | inl e ↦
            (let free = implied (is_check r.act) (is_everywhere r.cond && leaves_tags r.tag) is.alone e in
            let parts = and_parts (is_everywhere r.cond) (leaves_tags r.tag) free in
            let off = no_keep r.keep (ap (λ b. not r.keep || b) (sym (no_check r.act e)) ∙ is.keeps) in
            subst (λ (act : IpfwAct). RuleTaken site known (record { number = r.number; cond = r.cond; act = act; tag = r.tag; keep = r.keep })) (check_act r.act e)
            (checked_read laws site orderly known r.number r.tag r.cond r.keep (everywhere r.cond parts.0) (no_tag r.tag parts.1) off))
        | inr e ↦
            tested laws site orderly known r.number r.act r.tag r.cond r.keep e (act_fits nats r.number r.act all_printed e is.act) is.tag is.condition (implied r.keep (allows r.act) is.keeps)
      ]

  -- A line of a rule

  rule_made : (r : IpfwRule) (d : IpfwDraft) → IsPrinted site nats r → (is : RuleTaken site known r) → d.redirects + redirects_named nats r.act ≤ 200000
      → rule_put r.number known d is.draft ≡ Ok (with_rule r (d.redirects + redirects_named nats r.act) d)
  rule_made r d p is few =
      let draft : RuleDraft = is.draft in
      let act : draft.act ≡ r.act = ap (λ (x : IpfwRule). x.act) is.drawn in
      let count : named_redirects known draft.act ≡ redirects_named nats r.act = ap (named_redirects known) act ∙ named_same nats r.act in
      let total : d.redirects + named_redirects known draft.act ≡ d.redirects + redirects_named nats r.act = ap (λ k. d.redirects + k) count in
      let drawn = rule_drawn r.number draft in
      let within : r.number ≤ 65534 = p.within in
      let last : nat_eq r.number 65535 ≡ false = ne_eqb r.number 65535 (λ e. omega arith) in
      let back : goes_back r.number draft.act ≡ false = ap (goes_back r.number) act ∙ goes_ahead nats r.number r.act p.act in
      let shape : (draft.has_ports && not (has_ports draft.protocol)) ≡ false = ap (λ b. b && not (has_ports draft.protocol)) is.ports in
      let full : is_full draft.act (d.redirects + named_redirects known draft.act) ≡ false = ap₂ is_full act total ∙ not_full r.act (d.redirects + redirects_named nats r.act) few in
      ap (λ t. and_then (checked (record { left_out = nat_eq r.number 65535; backward = goes_back r.number draft.act; shape = draft.has_ports && not (has_ports draft.protocol); expand = is_full draft.act t }) drawn)
      (λ x. Ok (with_rule x t d))) total
      ∙ four (nat_eq r.number 65535) (goes_back r.number draft.act) (draft.has_ports && not (has_ports draft.protocol)) (is_full draft.act (d.redirects + redirects_named nats r.act)) drawn
      (λ x. Ok (with_rule x (d.redirects + redirects_named nats r.act) d)) last back shape (ap (is_full draft.act) (sym total) ∙ full)
      ∙ ap (λ x. Ok (with_rule x (d.redirects + redirects_named nats r.act) d)) is.drawn
    where
      four : (a b c e : Bool) (x : IpfwRule) (f : IpfwRule → Result IpfwDraft Cause) → a ≡ false → b ≡ false → c ≡ false → e ≡ false
          → and_then (checked (record { left_out = a; backward = b; shape = c; expand = e }) x) f ≡ f x
      four a b c e x f ha hb hc he =
          ap (λ v. and_then (unless (cond v (Some LeftOut) (cond b (Some Backward) (cond c (Some Shape) (cond e (Some Expand) None)))) x) f) ha
          ∙ ap (λ v. and_then (unless (cond v (Some Backward) (cond c (Some Shape) (cond e (Some Expand) None))) x) f) hb
          ∙ ap (λ v. and_then (unless (cond v (Some Shape) (cond e (Some Expand) None)) x) f) hc
          ∙ ap (λ v. and_then (unless (cond v (Some Expand) None) x) f) he

  rule_line_read : (r : IpfwRule) (d : IpfwDraft) → IsPrinted site nats r → (is : RuleTaken site known r) → d.redirects + redirects_named nats r.act ≤ 200000
      → IsRead site known (codes "add" ∷ decimal r.number ∷ body_texts site r) d (with_rule r (d.redirects + redirects_named nats r.act) d)
  rule_line_read r d p is few m =
      let texts = body_texts site r in
      let ws = map (word_at m) texts in
      let w : Word = word_at m (decimal r.number) in
      let writable = (and_parts (is_writable (decimal r.number)) _ (number_tame laws r.number)).0 in
      let some : 0 < r.number = p.some in
      let within : r.number ≤ 65534 = p.within in
      let number : rule_number w.text ≡ Some r.number = ap rule_number (text_at m (decimal r.number)) ∙ counted_read laws r.number 65535 (omega arith) (omega arith) (omega arith) in
      if_true (is_sound w) (option_map_or (λ n. rule_line site known n ws d) (rule_number w.text) (unnumbered site known w ws d)) (Err Syntax) (sound_at m (decimal r.number) writable)
      ∙ ap (λ o. option_map_or (λ n. rule_line site known n ws d) o (unnumbered site known w ws d)) number
      ∙ ap (λ o. and_then (and_then o (λ d. cond (may_end d.expects) (Ok d) (Err Syntax))) (rule_put r.number known d)) (words_by_texts (step site known) m texts fresh_rule is.body.writable ∙ is.taken)
      ∙ ap (λ b. and_then (cond b (Ok is.draft) (Err Syntax)) (rule_put r.number known d)) is.ends
      ∙ rule_made r d p is few

  none_defined : (b : Word) (ws : List Word) (m : ℕ) → defined_behind site (word_at m (codes "add") ∷ b ∷ ws) ≡ None
  none_defined b [] m = refl
  none_defined b (c ∷ ws) m = refl

  rule_line_defines : (r : IpfwRule) (before : List Defined) → Defines site (codes "add" ∷ decimal r.number ∷ body_texts site r) before before
  rule_line_defines r before m = ap (λ o. option_map_or (λ each. with_defined each before) o before) (none_defined (word_at m (decimal r.number)) (map (word_at m) (body_texts site r)) m)

  rules_taken : (rules : List IpfwRule) (from : ℕ) (before : List Defined) (d : IpfwDraft) → list_all (is_printed_rule site nats) rules ≡ true → d.redirects + all_redirects nats rules ≤ 200000
      → AreTaken site known before d (rule_lines site from rules) before (rules_after nats d rules)
  unfolding rules_after
  rules_taken [] from before d h few = none_taken
  rules_taken (r ∷ rs) from before d h few =
      let each = and_parts (is_printed_rule site nats r) (list_all (is_printed_rule site nats) rs) h in
      let p = printed site nats r each.0 in
      let is = rule_taken r p in
      let own : d.redirects + redirects_named nats r.act ≤ 200000 = omega arith in
      let next = with_rule r (d.redirects + redirects_named nats r.act) d in
      let later : d.redirects + redirects_named nats r.act + all_redirects nats rs ≤ 200000 = omega arith in
      let comment = comment_between from r.number sections in
      let texts = decimal r.number ∷ body_texts site r in
      let rest = rule_lines site r.number rs in
      let end = rules_after nats next rs in
      let front : list_all is_writable (codes "add" ∷ texts) ≡ true =
      and_from (is_writable (codes "add")) (list_all is_writable texts) refl
      (and_from (is_writable (decimal r.number)) (list_all is_writable (body_texts site r)) (and_parts (is_writable (decimal r.number)) _ (number_tame laws r.number)).0 is.body.writable) in
      let shown : map name_word (codes "add" ∷ texts) ≡ rule_words site r = ap₂ (λ (w : List ℕ) (ws : List (List ℕ)). codes "add" ∷ w ∷ ws) (tame_same (decimal r.number) (number_tame laws r.number)) is.body.shown in
      taken_append site known before before before d d end comment (spaced (rule_words site r) ∷ rest) (between_taken site known before d from r.number sections all_comments)
      (subst (λ (ws : List (List ℕ)). AreTaken site known before d (spaced ws ∷ rest) before end) shown
      (next_taken (codes "add") texts front (rule_line_defines r before) (rule_line_read r d p is own) (rules_taken rs r.number before next each.1 later)))

-- The text

none_other : (nats : List IpfwNat) → are_others [] nats ≡ true
none_other [] = refl
none_other (nat ∷ nats) = none_other nats

-- a text by its lines: both passes over them, and their end
text_by : (site : Site) (c : IpfwConfig) (text : List ℕ) (lines : List (List ℕ)) (named : List Defined) (last : IpfwDraft) → lines_of text ≡ lines → defined_from site [] (numbered Ipfw 1 lines) ≡ named
    → lines_read (line_step site named) fresh_text (numbered Ipfw 1 lines) ≡ Ok last → ended last ≡ Ok c → spelled site text ≡ Ok c
text_by site c text lines named last divided defined taken end =
    ap (λ (ls : List (List ℕ)). and_then (lines_read (line_step site (defined_from site [] (numbered Ipfw 1 ls))) fresh_text (numbered Ipfw 1 ls)) (λ state. located (suc (length ls)) (ended state))) divided
    ∙ ap (λ (k : List Defined). and_then (lines_read (line_step site k) fresh_text (numbered Ipfw 1 lines)) (λ state. located (suc (length lines)) (ended state))) defined
    ∙ ap (λ o. and_then o (λ state. located (suc (length lines)) (ended state))) taken
    ∙ ap (located (suc (length lines))) end

pub printed_read : Laws → PrintedTextsAreRead
printed_read laws site c orderly h =
    let a = are_ordered c.rules in
    let b = are_apart c.nats in
    let e = list_all is_printed_nat c.nats in
    let f = list_all (is_printed_rule site c.nats) c.rules in
    let g = nat_le (all_redirects c.nats c.rules) 200000 in
    let p4 = and_parts (a && b && e && f) g h in
    let p3 = and_parts (a && b && e) f p4.0 in
    let p2 = and_parts (a && b) e p3.0 in
    let p1 = and_parts a b p2.0 in
    let known = defs c.nats in
    let first : IpfwDraft = nats_after fresh_text c.nats in
    let kept = nats_kept fresh_text c.nats in
    let total : all_redirects c.nats c.rules ≤ 200000 = leb-true (all_redirects c.nats c.rules) 200000 p4.1 in
    let few : first.redirects + all_redirects c.nats c.rules ≤ 200000 = subst (λ (k : ℕ). k + all_redirects c.nats c.rules ≤ 200000) (sym kept.redirects_are) (omega arith) in
    let last : IpfwDraft = rules_after c.nats first c.rules in
    let ends = rules_kept c.nats first c.rules in
    let lines = config_lines site c in
    let behind_head = taken_append site known [] known known fresh_text first last (nat_lines c.nats) (rule_lines site 0 c.rules)
    (nat_lines_taken laws site orderly known c.nats fresh_text p2.1 p1.1 (none_other c.nats)) (rules_taken laws site orderly c.nats p2.1 c.rules 0 known first p3.1 few) in
    let taken : AreTaken site known [] fresh_text (head_lines ++ (nat_lines c.nats ++ rule_lines site 0 c.rules)) known last =
    comment_taken refl (comment_taken refl (comment_taken refl behind_head)) in
    let all = lines_taken site known [] known fresh_text last lines
    (subst (λ (l : List (List ℕ)). AreTaken site known [] fresh_text l known last) (sym (append_assoc head_lines (nat_lines c.nats) (rule_lines site 0 c.rules))) taken) in
    let divided : lines_of (config_text site c) ≡ lines = laws.lines lines all.single in
    let end : ended last ≡ Ok c =
    ap₂ (λ (rules : List IpfwRule) (nats : List IpfwNat). (let x : IpfwConfig = record { rules = by_number rules; nats = nats } in Ok x)) (ends.rules_are ∙ ap (λ (l : List IpfwRule). l ++ c.rules) kept.rules_are) (ends.nats_are ∙ kept.nats_are)
    ∙ ap (λ (rules : List IpfwRule). (let x : IpfwConfig = record { rules = rules; nats = c.nats } in Ok x)) (ordered_same c.rules p1.0) in
    text_by site c (config_text site c) lines known last divided (all.defined 1) (all.read 1) end
