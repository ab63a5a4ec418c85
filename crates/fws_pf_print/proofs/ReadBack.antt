-- The lines of rules are read as these, and so the text as the configuration.
use Rattle.std.proofs.Common.{◌≡◌, ℕ, ◌^◌, ◌≤◌, Bool, true, false, cond, ◌&&◌, not, nat_eq, Option, Some, None, option_and_then, Result, Ok, List, [], ◌∷◌, ◌++◌, length, codes, refl, ap, ap₂, sym, ◌∙◌, append_assoc, append-nil, arith, subst, suc}
use Rattle.std.proofs.lemmas.Bool.{and_parts, eqb-true, not-true}
use Rattle.std.specs.List.{list_all}
use Rattle.std.specs.Option.{option_map_or}
use Rattle.std.specs.Str.{bytes_eq}
use Rattle.fws_num.specs.Lines.{lines_of}
use Rattle.fws_num.specs.Written.{spaced}
use Rattle.fws_iv.specs.declared.iv.Iv.{Iv}
use Rattle.fws_net.specs.declared.condition.Lit.{Lit}
use Rattle.fws_net.specs.declared.outcome.End.{End}
use Rattle.fws_net.specs.declared.site.Site.{Site}
use Rattle.fws_net.specs.declared.cause.Cause.{Cause}
use Rattle.fws_net.specs.Reading.{and_then, lines_read, located, Refusal}
use Rattle.fws_pf.specs.declared.text_draft.PfDraft.{PfDraft}
use Rattle.fws_net.specs.SiteLaws.{IsOrderly}
use Rattle.fws_pf.specs.declared.config.PfConfig.{PfConfig}
use Rattle.fws_pf.specs.declared.config.PfNat.{PfNat}
use Rattle.fws_pf.specs.declared.config.PfRule.{PfRule}
use Rattle.fws_pf.specs.declared.config.Way.{Way}
use Rattle.fws_pf.specs.declared.rule_draft.Expects.TheVariants as expect
use Rattle.fws_pf.specs.declared.rule_draft.Verb.{Verb}
use Rattle.fws_pf.specs.declared.rule_draft.Verb.TheVariants as verbs
use Rattle.fws_pf.specs.declared.tables.Table.{Table}
use Rattle.fws_pf.specs.Keywords.{action_word as action_of}
use Rattle.fws_pf.specs.FileText.{ended, fresh_text, line_step, spelled, tables_from}
use Rattle.fws_pf.specs.RuleText.{fresh_rule}
use Rattle.fws_pf.specs.Statements.{joined, read_statements}
use Rattle.fws_pf_print.specs.Printable.{all_tags, are_named, behind_cond, behind_put, behind_rule, behind_rules, behind_translation, behind_translations, is_printed_cond, is_printed_end, is_printed_rule, is_printed_translation, is_translation_test, skips_none}
use Rattle.fws_pf_print.specs.PrintedText.{action_word, begin_words, config_lines, config_text, filter_comment, front_words, head_lines, options_words, rule_lines, section, state_words, tag_words, target_words, translation_lines, translations_comment, way_words}
use Rattle.fws_pf_print.specs.ReadBack.{PrintedTextsAreRead}
use Rattle.fws_pf_print.proofs.Basics.{never}
use Rattle.fws_pf_print.proofs.Conds.{divided, IsDivided}
use Rattle.fws_pf_print.proofs.Laws.{Laws}
use Rattle.fws_pf_print.proofs.LinesTaken.{AreTaken, comment_taken, IsRead, lines_taken, next_taken, none_taken, statement_taken, taken_append}
use Rattle.fws_pf_print.proofs.LineWords.{AreWords, bare, is_comment, more, word_at, words_append}
use Rattle.fws_pf_print.proofs.NatsRead.{no_read, written_read}
use Rattle.fws_pf_print.proofs.OptionsRead.{hides, redirects}
use Rattle.fws_pf_print.proofs.RulesRead.{block_read, known_between, pass_read, text_at}
use Rattle.fws_pf_print.proofs.TagNames.{named_same, names, names_from, tag_read}
use Rattle.fws_pf_print.proofs.WordsWritten.{front_written, options_written, state_written, tag_written, target_written, way_written}

-- Tags

put_few : (k : Option ℕ) (known next : ℕ) → known ≤ 2 ^ 32 → behind_put k known ≡ Some next → next ≤ 2 ^ 32
put_few None known next few h = (let same : known ≡ next = cc in subst (λ m. m ≤ 2 ^ 32) same few)
put_few (Some k) known next few h = (tag_read k known next few h).few

cond_few : (site : Site) (lits : List Lit) (is : IsDivided site lits) (known next : ℕ) → known ≤ 2 ^ 32 → behind_cond lits known ≡ Some next → next ≤ 2 ^ 32
cond_few site lits is known next few h = put_few is.options.tag known next few (sym (is.tags known ∙ is.options.tags known) ∙ h)

-- Filter rules

-- what is known of a printed rule
record IsRule (site : Site) (r : PfRule) : Type 0 where
  same : record { pass = r.pass; way = r.way; quick = false; cond = r.cond; tag = r.tag; keep = r.pass } ≡ r
  printed : is_printed_cond site r.cond ≡ true

rule_known : (site : Site) (r : PfRule) → is_printed_rule site r ≡ true → IsRule site r
rule_known site r h =
    let p = and_parts (not r.quick && (cond r.pass r.keep (not r.keep))) (is_printed_cond site r.cond) h in
    let q = and_parts (not r.quick) (cond r.pass r.keep (not r.keep)) p.0 in
    record {
      same = ap₂ (λ (a b : Bool). let x : PfRule = record { pass = r.pass; way = r.way; quick = a; cond = r.cond; tag = r.tag; keep = b } in x) (sym (not-true r.quick q.0)) (keeps r.pass r.keep q.1);
      printed = p.1;
    }
  where
    keeps : (a b : Bool) → cond a b (not b) ≡ true → a ≡ b
    keeps true b h = sym h
    keeps false b h = sym (not-true b h)

module _ (laws : Laws) (site : Site) (orderly : IsOrderly site) where
  abbrev with_tags : PfConfig → ℕ → PfConfig
  with_tags c known = record c { tags = names known }

  abbrev with_rules_of : PfConfig → List PfRule → ℕ → PfConfig
  with_rules_of c rules known = record c { filter = c.filter ++ rules; tags = names known }

  rule_written : (pass : Bool) (way : Way) (lits : List Lit) (tag : Option ℕ) → IsDivided site lits
      → AreWords (way_words way ++ (front_words site lits ++ (options_words lits ++ (tag_words tag ++ state_words pass lits))))
  rule_written pass way lits tag is =
      words_append (way_words way) _ (way_written laws way)
      (words_append (front_words site lits) _ (front_written laws site orderly lits is)
      (words_append (options_words lits) _ (options_written laws site lits is) (words_append (tag_words tag) _ (tag_written laws tag) (state_written laws pass lits))))

  no_table_word : (pass : Bool) (m : ℕ) → bytes_eq (word_at m (action_word pass)).text (codes "table") ≡ false
  no_table_word true m = refl
  no_table_word false m = refl

  rule_read : (pass : Bool) (way : Way) (lits : List Lit) (tag : Option ℕ) (is : IsDivided site lits) (c : PfConfig) (known middle last : ℕ) → known ≤ 2 ^ 32 → behind_cond lits known ≡ Some middle
      → behind_put tag middle ≡ Some last
      → IsRead site (action_word pass ∷ way_words way ++ (front_words site lits ++ (options_words lits ++ (tag_words tag ++ state_words pass lits)))) (with_tags c known)
      (with_rules_of c (record { pass = pass; way = way; quick = false; cond = lits; tag = tag; keep = pass } ∷ []) last)
  unfolding action_of
  rule_read false way lits tag is c known middle last few asks puts m =
      let words = way_words way ++ (front_words site lits ++ (options_words lits ++ (tag_words tag ++ state_words false lits))) in
      statement_taken site m (with_tags c known) (with_rules_of c (record { pass = false; way = way; quick = false; cond = lits; tag = tag; keep = false } ∷ []) last) (codes "block" ∷ words) words
      (fresh_rule verbs.Block false expect.Answer (names known)) (more (bare refl) (rule_written false way lits tag is)) (rule_written false way lits tag is) refl
      (block_read laws site orderly m (with_tags c known) way lits is tag known middle last few asks puts)
  rule_read true way lits tag is c known middle last few asks puts m =
      let words = way_words way ++ (front_words site lits ++ (options_words lits ++ (tag_words tag ++ state_words true lits))) in
      statement_taken site m (with_tags c known) (with_rules_of c (record { pass = true; way = way; quick = false; cond = lits; tag = tag; keep = true } ∷ []) last) (codes "pass" ∷ words) words
      (fresh_rule verbs.Pass false expect.Way (names known)) (more (bare refl) (rule_written true way lits tag is)) (rule_written true way lits tag is) refl
      (pass_read laws site orderly m (with_tags c known) way lits is tag known middle last few asks puts)

  action_more : (pass : Bool) (words : List (List ℕ)) → AreWords words → AreWords (action_word pass ∷ words)
  action_more true words h = more (bare refl) h
  action_more false words h = more (bare refl) h

  -- so many tags at most
  pub record Reached (c e : PfConfig) (lines : List (List ℕ)) (last : ℕ) : Type 0 where
    pub taken : AreTaken site c lines e
    pub few : last ≤ 2 ^ 32

  rules_taken : (rules : List PfRule) (c : PfConfig) (known last : ℕ) → list_all (is_printed_rule site) rules ≡ true → known ≤ 2 ^ 32 → behind_rules rules known ≡ Some last
      → Reached (with_tags c known) (with_rules_of c rules last) (rule_lines site rules) last
  rules_taken [] c known last h few e =
      let same : known ≡ last = cc in
      record {
        taken = subst (λ (x : PfConfig). AreTaken site (with_tags c known) [] x)
            (ap₂ (λ (rs : List PfRule) (m : ℕ). let x : PfConfig = record c { filter = rs; tags = names m } in x) (sym (append-nil c.filter)) same) none_taken;
        few = subst (λ m. m ≤ 2 ^ 32) same few;
      }
  rules_taken (r ∷ rs) c known last h few e =
      let each = and_parts (is_printed_rule site r) (list_all (is_printed_rule site) rs) h in
      let is = rule_known site r each.0 in
      let parts = divided site r.cond is.printed in
      let step = known_between (behind_rule r) (behind_rules rs) known last e in
      let own = known_between (behind_cond r.cond) (behind_put r.tag) known step.0 step.1 in
      let few1 : own.0 ≤ 2 ^ 32 = cond_few site r.cond parts known own.0 few own.1 in
      let few2 : step.0 ≤ 2 ^ 32 = put_few r.tag own.0 step.0 few1 own.2 in
      let next : PfConfig = record c { filter = c.filter ++ r ∷ [] } in
      let later = rules_taken rs next step.0 last each.1 few2 step.2 in
      let words = way_words r.way ++ (front_words site r.cond ++ (options_words r.cond ++ (tag_words r.tag ++ state_words r.pass r.cond))) in
      record {
        taken = next_taken {next = with_rules_of c (r ∷ []) step.0} (action_word r.pass) words (action_more r.pass words (rule_written r.pass r.way r.cond r.tag parts)) (no_table_word r.pass)
            (λ m. rule_read r.pass r.way r.cond r.tag parts c known own.0 step.0 few own.1 own.2 m ∙ ap (λ (x : PfRule). Ok (text_at (with_rules_of c (x ∷ []) step.0))) is.same)
            (subst (λ (l : List PfRule). AreTaken site (with_rules_of c (r ∷ []) step.0) (rule_lines site rs) (record c { filter = l; tags = names last })) (append_assoc c.filter (r ∷ []) rs) later.taken);
        few = later.few;
      }

  -- Translations

  abbrev verb_of : Bool → Verb
  verb_of true = verbs.Rdr
  verb_of false = verbs.Nat

  abbrev with_nats : Bool → PfConfig → List PfNat → ℕ → PfConfig
  with_nats true c nats known = record c { rdr = c.rdr ++ nats; tags = names known }
  with_nats false c nats known = record c { nat = c.nat ++ nats; tags = names known }

  -- what is known of a printed translation
  record IsNat (b : Bool) (nat : PfNat) : Type 0 where
    same : record { cond = nat.cond; to = nat.to; past = false; tag = nat.tag } ≡ nat
    printed : is_printed_cond site nat.cond ≡ true
    narrow : list_all (λ lit. is_translation_test lit.test) nat.cond ≡ true
    end : option_map_or (is_printed_end b nat.cond) nat.to true ≡ true

  nat_known : (b : Bool) (nat : PfNat) → is_printed_translation site b nat ≡ true → IsNat b nat
  nat_known b nat h =
      let n = list_all (λ lit. is_translation_test lit.test) nat.cond in
      let e = option_map_or (is_printed_end b nat.cond) nat.to true in
      let p3 = and_parts (not nat.past && is_printed_cond site nat.cond && n) e h in
      let p2 = and_parts (not nat.past && is_printed_cond site nat.cond) n p3.0 in
      let p1 = and_parts (not nat.past) (is_printed_cond site nat.cond) p2.0 in
      record { same = ap (λ (a : Bool). let x : PfNat = record { cond = nat.cond; to = nat.to; past = a; tag = nat.tag } in x) (sym (not-true nat.past p1.0)); printed = p1.1; narrow = p2.1; end = p3.1 }

  body_written : (b : Bool) (lits : List Lit) (tag : Option ℕ) (to : Option End) → IsDivided site lits → AreWords (front_words site lits ++ (tag_words tag ++ (options_words lits ++ target_words b to)))
  body_written b lits tag to is =
      words_append (front_words site lits) _ (front_written laws site orderly lits is)
      (words_append (tag_words tag) _ (tag_written laws tag) (words_append (options_words lits) _ (options_written laws site lits is) (target_written laws b to)))

  nat_line : (b : Bool) (lits : List Lit) (tag : Option ℕ) (to : Option End) (is : IsDivided site lits) (c : PfConfig) (known middle last : ℕ) → known ≤ 2 ^ 32 → behind_put tag known ≡ Some middle
      → behind_cond lits middle ≡ Some last → list_all (λ lit. is_translation_test lit.test) lits ≡ true → option_map_or (is_printed_end b lits) to true ≡ true
      → (lines : List (List ℕ)) (e : PfConfig) → AreTaken site (with_nats b c (record { cond = lits; to = to; past = false; tag = tag } ∷ []) last) lines e
      → AreTaken site (with_tags c known) (spaced (begin_words b to ++ (front_words site lits ++ (tag_words tag ++ (options_words lits ++ target_words b to)))) ∷ lines) e
  unfolding action_of
  nat_line true lits tag (Some x) is c known middle last few puts asks narrow end lines e later =
      let words = front_words site lits ++ (tag_words tag ++ (options_words lits ++ target_words true (Some x))) in
      let body = body_written true lits tag (Some x) is in
      next_taken (codes "rdr") words (more (bare refl) body) (λ m. refl)
      (λ m. statement_taken site m (with_tags c known) (with_nats true c (record { cond = lits; to = Some x; past = false; tag = tag } ∷ []) last) (codes "rdr" ∷ words) words
      (fresh_rule verbs.Rdr false expect.Past (names known)) (more (bare refl) body) body refl
      (written_read laws site orderly m (with_tags c known) verbs.Rdr redirects lits is narrow tag known middle last few puts asks x end)) later
  nat_line true lits tag None is c known middle last few puts asks narrow end lines e later =
      let words = front_words site lits ++ (tag_words tag ++ (options_words lits ++ target_words true None)) in
      let body = body_written true lits tag None is in
      next_taken (codes "no") (codes "rdr" ∷ words) (more (bare refl) (more (bare refl) body)) (λ m. refl)
      (λ m. statement_taken site m (with_tags c known) (with_nats true c (record { cond = lits; to = None; past = false; tag = tag } ∷ []) last) (codes "no" ∷ codes "rdr" ∷ words) words
      (fresh_rule verbs.Rdr true expect.Past (names known)) (more (bare refl) (more (bare refl) body)) body refl
      (no_read laws site orderly m (with_tags c known) verbs.Rdr redirects lits is narrow tag known middle last few puts asks)) later
  nat_line false lits tag (Some x) is c known middle last few puts asks narrow end lines e later =
      let words = front_words site lits ++ (tag_words tag ++ (options_words lits ++ target_words false (Some x))) in
      let body = body_written false lits tag (Some x) is in
      next_taken (codes "nat") words (more (bare refl) body) (λ m. refl)
      (λ m. statement_taken site m (with_tags c known) (with_nats false c (record { cond = lits; to = Some x; past = false; tag = tag } ∷ []) last) (codes "nat" ∷ words) words
      (fresh_rule verbs.Nat false expect.Past (names known)) (more (bare refl) body) body refl
      (written_read laws site orderly m (with_tags c known) verbs.Nat hides lits is narrow tag known middle last few puts asks x end)) later
  nat_line false lits tag None is c known middle last few puts asks narrow end lines e later =
      let words = front_words site lits ++ (tag_words tag ++ (options_words lits ++ target_words false None)) in
      let body = body_written false lits tag None is in
      next_taken (codes "no") (codes "nat" ∷ words) (more (bare refl) (more (bare refl) body)) (λ m. refl)
      (λ m. statement_taken site m (with_tags c known) (with_nats false c (record { cond = lits; to = None; past = false; tag = tag } ∷ []) last) (codes "no" ∷ codes "nat" ∷ words) words
      (fresh_rule verbs.Nat true expect.Past (names known)) (more (bare refl) (more (bare refl) body)) body refl
      (no_read laws site orderly m (with_tags c known) verbs.Nat hides lits is narrow tag known middle last few puts asks)) later

  -- translations one after the other
  nats_end : (b : Bool) (c : PfConfig) (known : ℕ) → with_tags c known ≡ with_nats b c [] known
  nats_end true c known = ap (λ (l : List PfNat). let x : PfConfig = record c { rdr = l; tags = names known } in x) (sym (append-nil c.rdr))
  nats_end false c known = ap (λ (l : List PfNat). let x : PfConfig = record c { nat = l; tags = names known } in x) (sym (append-nil c.nat))

  nats_more : (b : Bool) (c : PfConfig) (nat : PfNat) (nats : List PfNat) (known last : ℕ) → with_nats b (with_nats b c (nat ∷ []) known) nats last ≡ with_nats b c (nat ∷ nats) last
  nats_more true c nat nats known last = ap (λ (l : List PfNat). let x : PfConfig = record c { rdr = l; tags = names last } in x) (append_assoc c.rdr (nat ∷ []) nats)
  nats_more false c nat nats known last = ap (λ (l : List PfNat). let x : PfConfig = record c { nat = l; tags = names last } in x) (append_assoc c.nat (nat ∷ []) nats)

  nats_tags : (b : Bool) (c : PfConfig) (nats : List PfNat) (known : ℕ) → with_tags (with_nats b c nats known) known ≡ with_nats b c nats known
  nats_tags true c nats known = refl
  nats_tags false c nats known = refl

  nats_taken : (b : Bool) (nats : List PfNat) (c : PfConfig) (known last : ℕ) → list_all (is_printed_translation site b) nats ≡ true → known ≤ 2 ^ 32 → behind_translations nats known ≡ Some last
      → Reached (with_tags c known) (with_nats b c nats last) (translation_lines site b nats) last
  nats_taken b [] c known last h few e =
      let same : known ≡ last = cc in
      record { taken = subst (AreTaken site (with_tags c known) []) (nats_end b c known ∙ ap (with_nats b c []) same) none_taken; few = subst (λ m. m ≤ 2 ^ 32) same few }
  nats_taken b (nat ∷ nats) c known last h few e =
      let each = and_parts (is_printed_translation site b nat) (list_all (is_printed_translation site b) nats) h in
      let is = nat_known b nat each.0 in
      let parts = divided site nat.cond is.printed in
      let step = known_between (behind_translation nat) (behind_translations nats) known last e in
      let own = known_between (behind_put nat.tag) (behind_cond nat.cond) known step.0 step.1 in
      let few1 : own.0 ≤ 2 ^ 32 = put_few nat.tag known own.0 few own.1 in
      let few2 : step.0 ≤ 2 ^ 32 = cond_few site nat.cond parts own.0 step.0 few1 own.2 in
      let next = with_nats b c (nat ∷ []) step.0 in
      let later = nats_taken b nats next step.0 last each.1 few2 step.2 in
      let end = with_nats b c (nat ∷ nats) last in
      let rest : AreTaken site next (translation_lines site b nats) end =
      subst (λ (x : PfConfig). AreTaken site x (translation_lines site b nats) end) (nats_tags b c (nat ∷ []) step.0)
      (subst (AreTaken site (with_tags next step.0) (translation_lines site b nats)) (nats_more b c nat nats step.0 last) later.taken) in
      record {
        taken = nat_line b nat.cond nat.tag nat.to parts c known own.0 step.0 few own.1 own.2 is.narrow is.end (translation_lines site b nats) end
            (subst (λ (x : PfNat). AreTaken site (with_nats b c (x ∷ []) step.0) (translation_lines site b nats) end) (sym is.same) rest);
        few = later.few;
      }

  -- Sections

  section_taken : (comment : List ℕ) (c e : PfConfig) (lines : List (List ℕ)) → is_comment comment ≡ true → AreTaken site c lines e → AreTaken site c (section comment lines) e
  section_taken comment c e [] h k = k
  section_taken comment c e (line ∷ lines) h k = comment_taken h k

-- The text

-- a text by its lines: both passes over them, and their end
text_by : (site : Site) (c : PfConfig) (text : List ℕ) (lines : List (List ℕ)) → lines_of text ≡ lines → tables_from site [] [] (read_statements (joined 1 lines)) ≡ []
    → lines_read (line_step site []) fresh_text (read_statements (joined 1 lines)) ≡ Ok (text_at c) → spelled site text ≡ Ok c
text_by site c text lines divides untabled taken =
    ap (λ (ls : List (List ℕ)). and_then (lines_read (line_step site (tables_from site [] [] (read_statements (joined 1 ls)))) fresh_text (read_statements (joined 1 ls))) (λ state. located (suc (length ls)) (ended state))) divides
    ∙ ap (λ (ts : List Table). and_then (lines_read (line_step site ts) fresh_text (read_statements (joined 1 lines))) (λ state. located (suc (length lines)) (ended state))) untabled
    ∙ ap (λ o. and_then o (λ state. located (suc (length lines)) (ended state))) taken

no_skip : (skip : List Iv) → skips_none skip ≡ true → [] ≡ skip
no_skip [] h = refl
no_skip (iv ∷ skip) h = never h

tags_known : (o : Option ℕ) (m : ℕ) → option_map_or (nat_eq m) o false ≡ true → o ≡ Some m
tags_known None m h = never h
tags_known (Some k) m h = ap Some (sym (eqb-true m k h))

-- a text before its first statement
abbrev empty : PfConfig
empty = record { skip = []; rdr = []; nat = []; filter = []; tags = names 0 }

started : (site : Site) (lines : List (List ℕ)) (r : Result PfDraft (Refusal Cause)) → lines_read (line_step site []) (text_at empty) (read_statements (joined 1 lines)) ≡ r
    → lines_read (line_step site []) fresh_text (read_statements (joined 1 lines)) ≡ r
unfolding names_from
started site lines r h = h

pub printed_read : Laws → PrintedTextsAreRead
printed_read laws site c orderly h =
    let a = skips_none c.skip in
    let b = list_all (is_printed_translation site true) c.rdr in
    let d = list_all (is_printed_translation site false) c.nat in
    let e = list_all (is_printed_rule site) c.filter in
    let f = are_named 0 c.tags in
    let g = option_map_or (nat_eq (length c.tags)) (all_tags c) false in
    let p5 = and_parts (a && b && d && e && f) g h in
    let p4 = and_parts (a && b && d && e) f p5.0 in
    let p3 = and_parts (a && b && d) e p4.0 in
    let p2 = and_parts (a && b) d p3.0 in
    let p1 = and_parts a b p2.0 in
    let m = length c.tags in
    let all : all_tags c ≡ Some m = tags_known (all_tags c) m p5.1 in
    let outer = known_between (λ k. option_and_then (behind_translations c.nat) (behind_translations c.rdr k)) (behind_rules c.filter) 0 m all in
    let inside = known_between (behind_translations c.rdr) (behind_translations c.nat) 0 outer.0 outer.1 in
    let c1 : PfConfig = record { skip = []; rdr = c.rdr; nat = []; filter = []; tags = names inside.0 } in
    let c2 : PfConfig = record { skip = []; rdr = c.rdr; nat = c.nat; filter = []; tags = names outer.0 } in
    let c3 : PfConfig = record { skip = []; rdr = c.rdr; nat = c.nat; filter = c.filter; tags = names m } in
    let first = nats_taken laws site orderly true c.rdr empty 0 inside.0 p1.1 (omega arith) inside.1 in
    let second = nats_taken laws site orderly false c.nat c1 inside.0 outer.0 p2.1 first.few inside.2 in
    let third = rules_taken laws site orderly c.filter c2 outer.0 m p3.1 second.few outer.2 in
    let s1 = section (translations_comment true) (translation_lines site true c.rdr) in
    let s2 = section (translations_comment false) (translation_lines site false c.nat) in
    let s3 = section filter_comment (rule_lines site c.filter) in
    let taken : AreTaken site empty (head_lines ++ (s1 ++ (s2 ++ s3))) c3 =
    comment_taken refl (comment_taken refl
    (taken_append site empty c1 c3 s1 (s2 ++ s3) (section_taken laws site orderly (translations_comment true) empty c1 (translation_lines site true c.rdr) refl first.taken)
    (taken_append site c1 c2 c3 s2 s3 (section_taken laws site orderly (translations_comment false) c1 c2 (translation_lines site false c.nat) refl second.taken)
    (section_taken laws site orderly filter_comment c2 c3 (rule_lines site c.filter) refl third.taken)))) in
    let lines = config_lines site c in
    let are = lines_taken site empty c3 lines taken in
    let same : c3 ≡ c = ap₂ (λ (s : List Iv) (l : List (List ℕ)). let x : PfConfig = record { skip = s; rdr = c.rdr; nat = c.nat; filter = c.filter; tags = l } in x) (no_skip c.skip p1.0) (sym (named_same 0 c.tags p4.1)) in
    text_by site c (config_text site c) lines (laws.lines lines are.single) (are.untabled 1) (started site lines (Ok (text_at c3)) (are.taken 1) ∙ ap (λ (x : PfConfig). Ok (text_at x)) same)
