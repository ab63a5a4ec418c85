-- What holds of a text, statement by statement.
use Rattle.std.proofs.Common.{◌≡◌, ℕ, suc, ◌≤◌, Bool, true, false, ◌&&◌, ◌||◌, not, nat_le, option_map, Ok, List, [], ◌∷◌, ◌++◌, length, map, IfOk, refl, ◌∙◌}
use Rattle.std.specs.List.{list_all}
use Rattle.std.specs.Option.{option_map_or}
use Rattle.std.proofs.lemmas.Bool.{and_parts, and_from, or_right}
use Rattle.std.proofs.lemmas.List.Folds.{list_all-map}
use Rattle.std.proofs.lemmas.Result.{IfOk-at_ok}
use Rattle.fws_num.specs.declared.lines.Line.{Line}
use Rattle.fws_num.specs.declared.word.Word.{Word}
use Rattle.fws_net.specs.declared.condition.Lit.{Lit}
use Rattle.fws_net.specs.declared.condition.Test.{Test}
use Rattle.fws_net.specs.declared.condition.Test.TheVariants as tests
use Rattle.fws_net.specs.declared.site.Site.{Site}
use Rattle.fws_net.specs.Reading.{located, lines_read}
use Rattle.fws_rules.specs.AlikeWays.{AlikePacketsStayAlike}
use Rattle.fws_rules.specs.Regular.{AlikeWalksAreRegular, RegularPartsMakeAlikeWalks}
use Rattle.fws_pf.specs.declared.config.PfConfig.{PfConfig}
use Rattle.fws_pf.specs.declared.config.PfNat.{PfNat}
use Rattle.fws_pf.specs.declared.config.PfRule.{PfRule}
use Rattle.fws_pf.specs.declared.rule_draft.RuleDraft.{RuleDraft}
use Rattle.fws_pf.specs.declared.rule_draft.Verb.{Verb}
use Rattle.fws_pf.specs.declared.rule_draft.Verb.TheVariants as verbs
use Rattle.fws_pf.specs.declared.statement.Statement.{Statement}
use Rattle.fws_pf.specs.declared.statement.Statement.TheVariants as statements
use Rattle.fws_pf.specs.declared.tables.Table.{Table}
use Rattle.fws_pf.specs.declared.text_draft.PfDraft.{PfDraft}
use Rattle.fws_pf.specs.Drafts.{passes}
use Rattle.fws_pf.specs.Drawn.{choices, conditions, filter_rule, has_ports, has_target_port, is_port_protocol, rule_checks, target_end, translation}
use Rattle.fws_pf.specs.FileText.{all_tables, value_behind, name_defined, with_rules, with_rule, rule_put, statement_put, setting_at, is_definition, definition_step, words_step, line_step, fresh_text, ended, spelled}
use Rattle.fws_pf.specs.Macros.{value_defined, with_macro}
use Rattle.fws_pf.specs.Regular.{SpelledWalksAreRegular}
use Rattle.fws_pf.specs.Soundness.{is_entry, names_protocol, test_fits, cond_fits, tag_fits, rule_fits, end_fits, nat_fits, is_fitting, SpelledFits}
use Rattle.fws_pf.specs.Statements.{statements_of}
use Rattle.fws_pf.specs.StatementText.{statement_read}
use Rattle.fws_pf.proofs.Crossed.{below_more, cond_stands, conditions_stand, target_stands}
use Rattle.fws_pf.proofs.Lists.{all_weaker, all_both}
use Rattle.fws_pf.proofs.Outcomes.{then_holds, then_known, either_holds, passed_holds, located_holds}
use Rattle.fws_pf.proofs.Regular.{fitting_regular}
use Rattle.fws_pf.proofs.RuleWords.{Known, tag_more}
use Rattle.fws_pf.proofs.Skipped.{skipped_kept}
use Rattle.fws_pf.proofs.StatementWords.{Whole, statement_known}

-- Where there are more tags

test_more : (a b : ℕ) → a ≤ b → (lits : List Lit) (t : Test) → test_fits a lits t ≡ true → test_fits b lits t ≡ true
test_more a b more lits (tests.Tag n) h = below_more n a b more h
test_more a b more lits _ h = h

cond_more : (a b : ℕ) → a ≤ b → (lits : List Lit) → cond_fits a lits ≡ true → cond_fits b lits ≡ true
cond_more a b more lits h = all_weaker (λ lit. test_fits a lits lit.test) (λ lit. test_fits b lits lit.test) (λ lit k. test_more a b more lits lit.test k) lits h

rule_more : (a b : ℕ) → a ≤ b → (r : PfRule) → rule_fits a r ≡ true → rule_fits b r ≡ true
rule_more a b more r h =
    let all = and_parts (cond_fits a r.cond && tag_fits a r.tag) (not r.keep || r.pass) h in
    let both = and_parts (cond_fits a r.cond) (tag_fits a r.tag) all.0 in
    and_from (cond_fits b r.cond && tag_fits b r.tag) (not r.keep || r.pass)
    (and_from (cond_fits b r.cond) (tag_fits b r.tag) (cond_more a b more r.cond both.0) (tag_more a b r.tag more both.1)) all.1

nat_more : (a b : ℕ) → a ≤ b → (nat : PfNat) → nat_fits a nat ≡ true → nat_fits b nat ≡ true
nat_more a b more nat h =
    let written = option_map_or (end_fits nat.cond) nat.to true in
    let all = and_parts (cond_fits a nat.cond && tag_fits a nat.tag) written h in
    let both = and_parts (cond_fits a nat.cond) (tag_fits a nat.tag) all.0 in
    and_from (cond_fits b nat.cond && tag_fits b nat.tag) written
    (and_from (cond_fits b nat.cond) (tag_fits b nat.tag) (cond_more a b more nat.cond both.0) (tag_more a b nat.tag more both.1)) all.1

-- The rules of a statement

kept_passes : (a b : Bool) → (not (a && b) || a) ≡ true
kept_passes true true = refl
kept_passes true false = refl
kept_passes false b = refl

rules_made : (d : RuleDraft) (conds : List (List Lit)) → tag_fits (length d.tags) d.tag ≡ true → list_all (cond_stands (length d.tags) (has_ports d)) conds ≡ true
    → list_all (rule_fits (length d.tags)) (map (filter_rule d) conds) ≡ true
rules_made d conds tag h =
    let tags = length d.tags in
    list_all-map (rule_fits tags) (filter_rule d) conds
    ∙ all_weaker (cond_stands tags (has_ports d)) (λ lits. rule_fits tags (filter_rule d lits))
    (λ lits k.
    and_from (cond_fits tags lits && tag_fits tags d.tag) (not (passes d.verb && not d.stateless) || passes d.verb)
    (and_from (cond_fits tags lits) (tag_fits tags d.tag) (and_parts (cond_fits tags lits) (not (has_ports d) || names_protocol is_port_protocol lits) k).0 tag)
    (kept_passes (passes d.verb) (not d.stateless))) conds h

nats_made : (d : RuleDraft) (conds : List (List Lit)) → tag_fits (length d.tags) d.tag ≡ true → list_all (cond_stands (length d.tags) (has_ports d)) conds ≡ true
    → list_all (nat_fits (length d.tags)) (map (translation d) conds) ≡ true
nats_made d conds tag h =
    let tags = length d.tags in
    list_all-map (nat_fits tags) (translation d) conds
    ∙ all_weaker (cond_stands tags (has_ports d)) (λ lits. nat_fits tags (translation d lits))
    (λ lits k.
    let both = and_parts (cond_fits tags lits) (not (has_ports d) || names_protocol is_port_protocol lits) k in
    and_from (cond_fits tags lits && tag_fits tags d.tag) (option_map_or (end_fits lits) (option_map target_end d.target) true)
    (and_from (cond_fits tags lits) (tag_fits tags d.tag) both.0 tag)
    (target_stands (has_ports d) lits d.target both.1
    (or_right (nat_le 1 (length d.source_ports) || nat_le 1 (length d.destination_ports)) (has_target_port d)))) conds h

-- What holds of a text so far

record Standing (site : Site) (c : PfConfig) : Type 0 where
  skip : list_all (is_entry (suc (length site.faces))) c.skip ≡ true
  rdr : list_all (nat_fits (length c.tags)) c.rdr ≡ true
  nat : list_all (nat_fits (length c.tags)) c.nat ≡ true
  filter : list_all (rule_fits (length c.tags)) c.filter ≡ true

module _ (site : Site) (tables : List Table) where
  abbrev Stands : PfDraft → Type 0
  Stands t = Standing site t.config

  nats_stay : (a b : ℕ) → a ≤ b → (nats : List PfNat) → list_all (nat_fits a) nats ≡ true → list_all (nat_fits b) nats ≡ true
  nats_stay a b more nats h = all_weaker (nat_fits a) (nat_fits b) (nat_more a b more) nats h

  rules_stay : (a b : ℕ) → a ≤ b → (rules : List PfRule) → list_all (rule_fits a) rules ≡ true → list_all (rule_fits b) rules ≡ true
  rules_stay a b more rules h = all_weaker (rule_fits a) (rule_fits b) (rule_more a b more) rules h

  filter_stands : (c : PfConfig) (d : RuleDraft) (conds : List (List Lit)) → Standing site c → Known (length c.tags) d
      → list_all (cond_stands (length d.tags) (has_ports d)) conds ≡ true
      → Standing site (record c { filter = c.filter ++ map (filter_rule d) conds; tags = d.tags })
  filter_stands c d conds h k l =
      let a = length c.tags in
      let b = length d.tags in
      record {
        skip = h.skip;
        rdr = nats_stay a b k.grown c.rdr h.rdr;
        nat = nats_stay a b k.grown c.nat h.nat;
        filter = all_both (rule_fits b) c.filter (map (filter_rule d) conds) (rules_stay a b k.grown c.filter h.filter) (rules_made d conds k.tag_known l);
      }

  with_rules_stand : (verb : Verb) (c : PfConfig) (d : RuleDraft) (conds : List (List Lit)) → Standing site c → Known (length c.tags) d
      → list_all (cond_stands (length d.tags) (has_ports d)) conds ≡ true → Standing site (with_rules verb d conds c)
  with_rules_stand verbs.Rdr c d conds h k l =
      let a = length c.tags in
      let b = length d.tags in
      record {
        skip = h.skip;
        rdr = all_both (nat_fits b) c.rdr (map (translation d) conds) (nats_stay a b k.grown c.rdr h.rdr) (nats_made d conds k.tag_known l);
        nat = nats_stay a b k.grown c.nat h.nat;
        filter = rules_stay a b k.grown c.filter h.filter;
      }
  with_rules_stand verbs.Nat c d conds h k l =
      let a = length c.tags in
      let b = length d.tags in
      record {
        skip = h.skip;
        rdr = nats_stay a b k.grown c.rdr h.rdr;
        nat = all_both (nat_fits b) c.nat (map (translation d) conds) (nats_stay a b k.grown c.nat h.nat) (nats_made d conds k.tag_known l);
        filter = rules_stay a b k.grown c.filter h.filter;
      }
  with_rules_stand verbs.Block c d conds h k l = filter_stands c d conds h k l
  with_rules_stand verbs.Pass c d conds h k l = filter_stands c d conds h k l

  rule_stands : (d : RuleDraft) (t : PfDraft) → Stands t → Known (length t.config.tags) d → IfOk (rule_put tables d t) Stands
  rule_stands d t h k =
      passed_holds Stands (rule_checks tables t.expanded d) (with_rule (choices tables d) d t)
      (λ shape. with_rules_stand d.verb t.config d (conditions (choices tables d)) h k (conditions_stand tables d k.protocols_one k.options_may shape))

  put_stands : (s : Statement) (t : PfDraft) → Stands t → Whole (length t.config.tags) (suc (length site.faces)) s → IfOk (statement_put site tables s t) Stands
  put_stands (statements.Rule d) t h k = rule_stands d t h k
  put_stands (statements.SkipOn v) t h k =
      record { skip = skipped_kept (suc (length site.faces)) t.config.skip v.items h.skip k; rdr = h.rdr; nat = h.nat; filter = h.filter }
  put_stands (statements.Table d) t h k = h
  put_stands _ t h k = h

  -- Lines

  definition_stands : (ws : List Word) (t : PfDraft) → Stands t → IfOk (definition_step ws t) Stands
  definition_stands ws t h =
      then_holds Stands (value_defined t.macros (value_behind ws)) (λ value. Ok (record t { macros = with_macro (name_defined ws) value t.macros })) (λ value. h)

  words_stand : (ws : List Word) (t : PfDraft) → Stands t → IfOk (words_step site tables ws t) Stands
  words_stand ws t h =
      let tags = t.config.tags in
      let setting = setting_at site tables t in
      either_holds Stands (is_definition ws) (definition_step ws t) _ (λ e. definition_stands ws t h)
      (λ e. then_known (Whole (length tags) (suc (length site.faces))) Stands (statement_read setting t.macros tags ws) (λ s. statement_put site tables s t)
      (statement_known setting tags t.macros ws) (λ s k. put_stands s t h k))

  lines_stand : (t : PfDraft) (lines : List Line) → Stands t → IfOk (lines_read (line_step site tables) t lines) Stands
  lines_stand t [] h = h
  lines_stand t (line ∷ lines) h =
      then_known Stands Stands (located line.number (line_step site tables t line)) (λ next. lines_read (line_step site tables) next lines)
      (located_holds Stands line.number (line_step site tables t line) (words_stand line.words t h)) (λ next k. lines_stand next lines k)

-- The whole text

abbrev Fitting : Site → PfConfig → Type 0
Fitting site c = is_fitting site c ≡ true

standing_fits : (site : Site) (c : PfConfig) → Standing site c → Fitting site c
standing_fits site c h =
    let tags = length c.tags in
    let skip = list_all (is_entry (suc (length site.faces))) c.skip in
    let rdr = list_all (nat_fits tags) c.rdr in
    let nat = list_all (nat_fits tags) c.nat in
    and_from (skip && rdr && nat) (list_all (rule_fits tags) c.filter) (and_from (skip && rdr) nat (and_from skip rdr h.skip h.rdr) h.nat) h.filter

spelled_fitting : (site : Site) (text : List ℕ) → IfOk (spelled site text) (Fitting site)
spelled_fitting site text =
    let lines = statements_of text in
    let tables = all_tables site lines.lines in
    then_known (λ (t : PfDraft). Standing site t.config) (Fitting site) (lines_read (line_step site tables) fresh_text lines.lines) (λ t. located lines.past (ended t))
    (lines_stand site tables fresh_text lines.lines (record { skip = refl; rdr = refl; nat = refl; filter = refl }))
    (λ t h. located_holds (Fitting site) lines.past (ended t) (standing_fits site t.config h))

pub spelled_is_fitting : SpelledFits
spelled_is_fitting site text c e = IfOk-at_ok (Fitting site) e (spelled_fitting site text)

pub spelled_walks_are_regular : AlikePacketsStayAlike → RegularPartsMakeAlikeWalks → AlikeWalksAreRegular → SpelledWalksAreRegular
spelled_walks_are_regular stay make regular site text c e = fitting_regular stay make regular site c (spelled_is_fitting site text c e)
