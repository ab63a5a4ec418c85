-- What holds of a text, statement by statement.
use Rattle.std.proofs.Common.{◌≡◌, ℕ, suc, ◌≤◌, Bool, true, false, ◌&&◌, ◌||◌, not, nat_le, option_map, Ok, List, [], ◌∷◌, ◌++◌, length, map, IfOk, refl, ◌∙◌}
use Rattle.std.specs.List.{list_all}
use Rattle.std.specs.Option.{option_map_or}
use Rattle.std.proofs.lemmas.Bool.{and_parts, and_from, or_right}
use Rattle.std.proofs.lemmas.List.Folds.{list_all-map}
use Rattle.std.proofs.lemmas.Result.{IfOk-at_ok}
use Rattle.fws_num.specs.declared.lines.Line.{Line}
use Rattle.fws_num.specs.declared.word.Word.{Word}
use Rattle.fws_net.specs.declared.condition.Lit.{Lit}
use Rattle.fws_net.specs.declared.condition.Test.{Test}
use Rattle.fws_net.specs.declared.condition.Test.TheVariants as tests
use Rattle.fws_net.specs.declared.site.Site.{Site}
use Rattle.fws_net.specs.Reading.{located, lines_read}
use Rattle.fws_rules.specs.AlikeWays.{AlikePacketsStayAlike}
use Rattle.fws_rules.specs.Regular.{AlikeWalksAreRegular, RegularPartsMakeAlikeWalks}
use Rattle.fws_pf.specs.declared.rule_draft.RuleDraft.{RuleDraft}
use Rattle.fws_pf.specs.declared.tables.Table.{Table}
use Rattle.fws_pf.specs.Drawn.{choices, conditions, has_ports, has_target_port, is_port_protocol, target_end}
use Rattle.fws_pf.specs.FileText.{all_tables, value_behind, name_defined, is_definition}
use Rattle.fws_pf.specs.Macros.{value_defined, with_macro}
use Rattle.fws_pf.specs.Soundness.{is_entry, names_protocol, test_fits, cond_fits, tag_fits, end_fits}
use Rattle.fws_pf.specs.Statements.{statements_of}
use Rattle.fws_pf.proofs.Crossed.{below_more, cond_stands, conditions_stand, target_stands}
use Rattle.fws_pf.proofs.Lists.{all_weaker, all_both}
use Rattle.fws_pf.proofs.Outcomes.{then_holds, then_known, either_holds, passed_holds, located_holds}
use Rattle.fws_pf.proofs.RuleWords.{tag_more}
use Rattle.fws_pf.proofs.Skipped.{skipped_kept}
use Rattle.fws_pfo.specs.declared.config.PfoConfig.{PfoConfig}
use Rattle.fws_pfo.specs.declared.config.PfoKind.{PfoKind}
use Rattle.fws_pfo.specs.declared.config.PfoKind.TheVariants as kinds
use Rattle.fws_pfo.specs.declared.config.PfoRule.{PfoRule}
use Rattle.fws_pfo.specs.declared.rule_draft.PfoRuleDraft.{PfoRuleDraft}
use Rattle.fws_pfo.specs.declared.statement.PfoStatement.{PfoStatement}
use Rattle.fws_pfo.specs.declared.statement.PfoStatement.TheVariants as statements
use Rattle.fws_pfo.specs.declared.text_draft.PfoDraft.{PfoDraft}
use Rattle.fws_pfo.specs.Drafts.{is_match, is_pass}
use Rattle.fws_pfo.specs.Drawn.{ends_pass, rule_checks, rule_of}
use Rattle.fws_pfo.specs.FileText.{definition_step, ended, fresh_text, line_step, rule_put, setting_at, spelled, statement_put, with_rule, words_step}
use Rattle.fws_pfo.specs.Regular.{SpelledWalksAreRegular}
use Rattle.fws_pfo.specs.Soundness.{SpelledFits, decides_nothing, is_fitting, passes, rule_fits}
use Rattle.fws_pfo.specs.StatementText.{statement_read}
use Rattle.fws_pfo.proofs.Regular.{fitting_regular}
use Rattle.fws_pfo.proofs.RuleWords.{Known}
use Rattle.fws_pfo.proofs.StatementWords.{Whole, statement_known}

-- Where there are more tags

test_more : (a b : ℕ) → a ≤ b → (lits : List Lit) (t : Test) → test_fits a lits t ≡ true → test_fits b lits t ≡ true
test_more a b more lits (tests.Tag n) h = below_more n a b more h
test_more a b more lits _ h = h

cond_more : (a b : ℕ) → a ≤ b → (lits : List Lit) → cond_fits a lits ≡ true → cond_fits b lits ≡ true
cond_more a b more lits h = all_weaker (λ lit. test_fits a lits lit.test) (λ lit. test_fits b lits lit.test) (λ lit k. test_more a b more lits lit.test k) lits h

-- a rule fits by five tests, of which two ask for tags
five_from : (a b c d e : Bool) → a ≡ true → b ≡ true → c ≡ true → d ≡ true → e ≡ true → (a && b && c && d && e) ≡ true
five_from a b c d e f g h k l = and_from (a && b && c && d) e (and_from (a && b && c) d (and_from (a && b) c (and_from a b f g) h) k) l

rule_more : (a b : ℕ) → a ≤ b → (r : PfoRule) → rule_fits a r ≡ true → rule_fits b r ≡ true
rule_more a b more r h =
    let to = option_map_or (end_fits r.cond) r.to true in
    let keeps = not r.keep || passes r.kind in
    let stops = not r.quick || not (decides_nothing r.kind) in
    let fifth = and_parts (cond_fits a r.cond && tag_fits a r.tag && to && keeps) stops h in
    let fourth = and_parts (cond_fits a r.cond && tag_fits a r.tag && to) keeps fifth.0 in
    let third = and_parts (cond_fits a r.cond && tag_fits a r.tag) to fourth.0 in
    let both = and_parts (cond_fits a r.cond) (tag_fits a r.tag) third.0 in
    five_from (cond_fits b r.cond) (tag_fits b r.tag) to keeps stops (cond_more a b more r.cond both.0) (tag_more a b r.tag more both.1) third.1 fourth.1 fifth.1

-- The rules of a statement

kept_passes : (kind : PfoKind) (stateless : Bool) → (not (is_pass kind && not stateless) || passes kind) ≡ true
kept_passes kinds.Pass true = refl
kept_passes kinds.Pass false = refl
kept_passes kinds.Block stateless = refl
kept_passes kinds.Match stateless = refl

quick_decides : (kind : PfoKind) (quick : Bool) → (not (not (is_match kind) && quick) || not (decides_nothing kind)) ≡ true
quick_decides kinds.Pass true = refl
quick_decides kinds.Pass false = refl
quick_decides kinds.Block true = refl
quick_decides kinds.Block false = refl
quick_decides kinds.Match quick = refl

rules_made : (d : PfoRuleDraft) (conds : List (List Lit)) → tag_fits (length d.shared.tags) d.shared.tag ≡ true
    → list_all (cond_stands (length d.shared.tags) (has_ports d.shared)) conds ≡ true → list_all (rule_fits (length d.shared.tags)) (map (rule_of d) conds) ≡ true
rules_made d conds tag h =
    let s : RuleDraft = d.shared in
    let tags = length s.tags in
    list_all-map (rule_fits tags) (rule_of d) conds
    ∙ all_weaker (cond_stands tags (has_ports s)) (λ lits. rule_fits tags (rule_of d lits))
    (λ lits k.
    let both = and_parts (cond_fits tags lits) (not (has_ports s) || names_protocol is_port_protocol lits) k in
    five_from (cond_fits tags lits) (tag_fits tags s.tag) (option_map_or (end_fits lits) (option_map target_end s.target) true)
    (not (is_pass d.kind && not s.stateless) || passes d.kind) (not (ends_pass d) || not (decides_nothing d.kind))
    both.0 tag
    (target_stands (has_ports s) lits s.target both.1
    (or_right (nat_le 1 (length s.source_ports) || nat_le 1 (length s.destination_ports)) (has_target_port s)))
    (kept_passes d.kind s.stateless) (quick_decides d.kind s.quick)) conds h

-- What holds of a text so far

record Standing (site : Site) (c : PfoConfig) : Type 0 where
  skip : list_all (is_entry (suc (length site.faces))) c.skip ≡ true
  rules : list_all (rule_fits (length c.tags)) c.rules ≡ true

module _ (site : Site) (tables : List Table) where
  abbrev Stands : PfoDraft → Type 0
  Stands t = Standing site t.config

  with_rules_stand : (c : PfoConfig) (d : PfoRuleDraft) (conds : List (List Lit)) → Standing site c → Known (length c.tags) d
      → list_all (cond_stands (length d.shared.tags) (has_ports d.shared)) conds ≡ true
      → Standing site (record c { rules = c.rules ++ map (rule_of d) conds; tags = d.shared.tags })
  with_rules_stand c d conds h k l =
      let a = length c.tags in
      let b = length d.shared.tags in
      record {
        skip = h.skip;
        rules = all_both (rule_fits b) c.rules (map (rule_of d) conds) (all_weaker (rule_fits a) (rule_fits b) (rule_more a b k.grown) c.rules h.rules) (rules_made d conds k.tag_known l);
      }

  rule_stands : (d : PfoRuleDraft) (t : PfoDraft) → Stands t → Known (length t.config.tags) d → IfOk (rule_put tables d t) Stands
  rule_stands d t h k =
      passed_holds Stands (rule_checks tables t.expanded t.ends d) (with_rule (choices tables d.shared) d t)
      (λ shape. with_rules_stand t.config d (conditions (choices tables d.shared)) h k (conditions_stand tables d.shared k.protocols_one k.options_may shape))

  put_stands : (s : PfoStatement) (t : PfoDraft) → Stands t → Whole (length t.config.tags) (suc (length site.faces)) s → IfOk (statement_put site tables s t) Stands
  put_stands (statements.Rule d) t h k = rule_stands d t h k
  put_stands (statements.SkipOn v) t h k = record { skip = skipped_kept (suc (length site.faces)) t.config.skip v.items h.skip k; rules = h.rules }
  put_stands (statements.Table d) t h k = h
  put_stands _ t h k = h

  -- Lines

  definition_stands : (ws : List Word) (t : PfoDraft) → Stands t → IfOk (definition_step ws t) Stands
  definition_stands ws t h =
      then_holds Stands (value_defined t.macros (value_behind ws)) (λ value. Ok (record t { macros = with_macro (name_defined ws) value t.macros })) (λ value. h)

  words_stand : (ws : List Word) (t : PfoDraft) → Stands t → IfOk (words_step site tables ws t) Stands
  words_stand ws t h =
      let tags = t.config.tags in
      let setting = setting_at site tables t in
      either_holds Stands (is_definition ws) (definition_step ws t) _ (λ e. definition_stands ws t h)
      (λ e. then_known (Whole (length tags) (suc (length site.faces))) Stands (statement_read setting t.macros tags ws) (λ s. statement_put site tables s t)
      (statement_known setting tags t.macros ws) (λ s k. put_stands s t h k))

  lines_stand : (t : PfoDraft) (lines : List Line) → Stands t → IfOk (lines_read (line_step site tables) t lines) Stands
  lines_stand t [] h = h
  lines_stand t (line ∷ lines) h =
      then_known Stands Stands (located line.number (line_step site tables t line)) (λ next. lines_read (line_step site tables) next lines)
      (located_holds Stands line.number (line_step site tables t line) (words_stand line.words t h)) (λ next k. lines_stand next lines k)

-- The whole text

abbrev Fitting : Site → PfoConfig → Type 0
Fitting site c = is_fitting site c ≡ true

standing_fits : (site : Site) (c : PfoConfig) → Standing site c → Fitting site c
standing_fits site c h = and_from (list_all (is_entry (suc (length site.faces))) c.skip) (list_all (rule_fits (length c.tags)) c.rules) h.skip h.rules

spelled_fitting : (site : Site) (text : List ℕ) → IfOk (spelled site text) (Fitting site)
spelled_fitting site text =
    let lines = statements_of text in
    let tables = all_tables site lines.lines in
    then_known (λ (t : PfoDraft). Standing site t.config) (Fitting site) (lines_read (line_step site tables) fresh_text lines.lines) (λ t. located lines.past (ended t))
    (lines_stand site tables fresh_text lines.lines (record { skip = refl; rules = refl }))
    (λ t h. located_holds (Fitting site) lines.past (ended t) (standing_fits site t.config h))

pub spelled_is_fitting : SpelledFits
spelled_is_fitting site text c e = IfOk-at_ok (Fitting site) e (spelled_fitting site text)

pub spelled_walks_are_regular : AlikePacketsStayAlike → RegularPartsMakeAlikeWalks → AlikeWalksAreRegular → SpelledWalksAreRegular
spelled_walks_are_regular stay make regular site text c e = fitting_regular stay make regular site c (spelled_is_fitting site text c e)
