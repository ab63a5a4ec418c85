-- The text of a generated filter is read as that filter.
use Rattle.std.proofs.Common.{◌≡◌, ℕ, zero, suc, ◌+◌, ◌^◌, ◌<◌, ◌≤◌, false, None, Some, Ok, List, [], ◌∷◌, ◌++◌, map, length, codes, decimal, refl, ap, ap₂, sym, ◌∙◌, append_assoc, append-nil, arith}
use Rattle.std.specs.List.{range_with_len}
use Rattle.fws_load.specs.Load.{filter_text}
use Rattle.fws_num.specs.declared.comments.Comments.TheVariants.{HashLine}
use Rattle.fws_num.specs.Lines.{read_of}
use Rattle.fws_num.specs.Numbers.{AddressesAreDotted, DecimalsAreRead, NumbersAreDigits, PrefixesAreRead}
use Rattle.fws_num.specs.Words.{plain_word}
use Rattle.fws_num.specs.Written.{TextsAreRead, lines_written}
use Rattle.fws_net.specs.declared.condition.Test.TheVariants.{Src, Dst, Dport, Proto}
use Rattle.fws_net.specs.declared.site.Site.{Site}
use Rattle.fws_net.specs.Reading.{and_then, lines_ended, lines_read, located}
use Rattle.fws_rules.specs.Literals.{one, positive}
use Rattle.fws_iv.specs.declared.iv.Iv.{Iv}
use Rattle.fws_ipt.specs.declared.config.IptTable.TheVariants.{Filter}
use Rattle.fws_ipt.specs.declared.config.IptGo.TheVariants.{Accept}
use Rattle.fws_ipt.specs.declared.config.IptRule.{IptRule}
use Rattle.fws_ipt.specs.declared.draft.IptDraft.{IptDraft}
use Rattle.fws_ipt.specs.declared.draft.Section.TheVariants.{Met}
use Rattle.fws_ipt.specs.FileText.{builtin_hook, ended, fresh_text, line_step, policy_named, section_named}
use Rattle.fws_ipt.specs.Hooks.{hook_named}
use Rattle.fws_ipt.specs.Options.{is_module, other_keyword, target_word, test_option}
use Rattle.fws_ipt.specs.Values.{is_state, is_translation_state}
use Rattle.fws_load_laws.specs.LoadedFilters.{LoadTextsAreRead, known_rule, load_chains, load_rule}
use Rattle.fws_load_laws.proofs.FilterLines.{filter_lines, last_line, net_word, rule_words, rule_written, source_at, target_at, text_same}
use Rattle.fws_load_laws.proofs.PlainWords.{lines_plain, net_at, net_parts, net_plain, net_read, number_plain, number_whole, plain_printed, source_clear, target_clear}
use Rattle.fws_load_laws.proofs.RuleRead.{rule_read, rule_with}

-- the laws of spelled texts on which this rests
pub record Laws : Type 0 where
  pub decimals : DecimalsAreRead
  pub digits : NumbersAreDigits
  pub dots : AddressesAreDotted
  pub prefixes : PrefixesAreRead
  pub texts : TextsAreRead

-- what was read of the text behind the last of these rules
abbrev reading : List IptRule → IptDraft
reading rules = record { opened = Met Filter ∷ []; within = Some (Met Filter); chains = load_chains rules; others = [] }

-- and behind the table
abbrev done : List IptRule → IptDraft
done rules = record (reading rules) { within = None }

-- the lines ahead of the rules
front_read : (site : Site) (n : ℕ)
    → lines_read (line_step site) fresh_text (lines_written 1 (filter_lines n))
    ≡ lines_read (line_step site) (reading (known_rule ∷ [])) (lines_written 6 (map rule_written (range_with_len 0 n) ++ last_line))
unfolding section_named policy_named hook_named test_option other_keyword target_word is_module is_state is_translation_state
front_read site n = refl

module _ (laws : Laws) (site : Site) where
  rule_same : (k : ℕ) → k < 4000 → rule_with (net_at (source_at k)) (net_at (target_at k)) (1000 + k) ≡ load_rule k
  rule_same k h =
      ap₂ (λ (source target : List Iv). let rule : IptRule = record {
        cond = positive (Src source) ∷ positive (Dst target) ∷ positive (Proto (one 6 6)) ∷ positive (Dport (one (1000 + k) (1000 + k))) ∷ [];
        go = Accept;
      } in rule) (net_parts (source_at k) (source_clear k)) (net_parts (target_at k) (target_clear k))

  rule_taken : (line k : ℕ) (rules : List IptRule) → k < 4000
      → line_step site (reading rules) (record { number = line; indented = false; words = map (plain_word line) (rule_words k) }) ≡ Ok (reading (rules ++ load_rule k ∷ []))
  rule_taken line k rules h =
      let source = net_word (source_at k) in
      let target = net_word (target_at k) in
      let port = decimal (1000 + k) in
      let source_low : source_at k < 2 ^ 32 = omega arith in
      let target_low : target_at k < 2 ^ 32 = omega arith in
      let port_low : 1000 + k < 2 ^ 64 = omega arith in
      let port_most : 1000 + k ≤ 65535 = omega arith in
      ap (λ o. and_then o (λ (rule : IptRule). Ok (reading (rules ++ rule ∷ []))))
      (rule_read site (load_chains rules) (builtin_hook (Met Filter) (codes "FORWARD")) line source target port (net_at (source_at k)) (net_at (target_at k)) (1000 + k)
      (plain_printed source (net_plain laws.dots (source_at k))) (plain_printed target (net_plain laws.dots (target_at k))) (plain_printed port (number_plain laws.digits (1000 + k)))
      (net_read laws.prefixes (source_at k) source_low (source_clear k)) (net_read laws.prefixes (target_at k) target_low (target_clear k))
      (number_whole laws.digits (1000 + k)) (laws.decimals (1000 + k) 65535 port_low port_most)
      ∙ ap (λ (rule : IptRule). Ok rule) (rule_same k h))

  rules_taken : (from n line : ℕ) (rules : List IptRule) → from + n ≤ 4000
      → lines_read (line_step site) (reading rules) (lines_written line (map rule_written (range_with_len from n) ++ last_line)) ≡ Ok (done (rules ++ map load_rule (range_with_len from n)))
  rules_taken from zero line rules h = ap (λ (rules : List IptRule). Ok (done rules)) (sym (append-nil rules))
  rules_taken from (suc n) line rules h =
      let rest : List ℕ = range_with_len (from + 1) n in
      ap (λ o. and_then (located line o) (λ d. lines_read (line_step site) d (lines_written (suc line) (map rule_written rest ++ last_line)))) (rule_taken line from rules (omega arith))
      ∙ rules_taken (from + 1) n (suc line) (rules ++ load_rule from ∷ []) (omega arith)
      ∙ ap (λ (rules : List IptRule). Ok (done rules)) (append_assoc rules (load_rule from ∷ []) (map load_rule rest))

pub filters_read : Laws → LoadTextsAreRead
filters_read laws site n h =
    let lines = filter_lines n in
    let past = suc (length lines) in
    let read : read_of HashLine (filter_text n) ≡ record { lines = lines_written 1 lines; past = past } =
    ap (read_of HashLine) (text_same n h) ∙ laws.texts HashLine lines (lines_plain laws.digits laws.dots n) in
    ap (lines_ended (line_step site) ended fresh_text) read
    ∙ ap (λ o. and_then o (λ d. located past (ended d))) (front_read site n ∙ rules_taken laws site 0 n 6 (known_rule ∷ []) (omega arith))
