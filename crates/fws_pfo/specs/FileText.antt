-- A text of pf.conf(5) of OpenBSD: its configuration, or its first refused statement with the cause.
use Rattle.std.specs.Prelude.{ℕ, suc, Some, Result, Ok, List, [], ◌∷◌, ◌++◌, length, map, if◌then◌else◌}
use Rattle.fws_num.specs.declared.lines.Line.{Line}
use Rattle.fws_num.specs.declared.lines.Lines.{Lines}
use Rattle.fws_num.specs.declared.word.Word.{Word}
use Rattle.fws_net.specs.declared.cause.Cause.{Cause}
use Rattle.fws_net.specs.declared.site.Site.{Site}
use Rattle.fws_net.specs.Causes.{checked}
use Rattle.fws_net.specs.Reading.{Refusal, and_then, lines_ended}
use Rattle.fws_pf.specs.declared.rule_draft.Choice.{Choice}
use Rattle.fws_pf.specs.declared.tables.Table.{Table}
use Rattle.fws_pf.specs.Drawn.{choices, condition_count, conditions, expanded_with}
use Rattle.fws_pf.specs.FileText.{all_tables, is_definition, name_defined, value_behind, with_skipped}
use Rattle.fws_pf.specs.Macros.{value_defined, with_macro}
use Rattle.fws_pf.specs.Statements.{statements_of}
use Rattle.fws_pf.specs.Values.{Setting}
use Rattle.fws_pfo.specs.declared.config.PfoConfig.{PfoConfig}
use Rattle.fws_pfo.specs.declared.rule_draft.PfoRuleDraft.{PfoRuleDraft}
use Rattle.fws_pfo.specs.declared.statement.PfoStatement.{PfoStatement}
use Rattle.fws_pfo.specs.declared.statement.PfoStatement.TheVariants as statements
use Rattle.fws_pfo.specs.declared.text_draft.PfoDraft.{PfoDraft}
use Rattle.fws_pfo.specs.Drawn.{ends_with, rule_checks, rule_of}
use Rattle.fws_pfo.specs.StatementText.{statement_read}

-- What statements say

-- the rules of a statement, one for each condition, behind the others
abbrev pub with_rule : List Choice → PfoRuleDraft → PfoDraft → PfoDraft
with_rule cs d t = record t {
  expanded = expanded_with t.expanded (condition_count cs);
  ends = ends_with t.ends d;
  config = record t.config { rules = t.config.rules ++ map (rule_of d) (conditions cs); tags = d.shared.tags };
}

-- a whole rule, unless a check of the statement fails
abbrev pub rule_put : List Table → PfoRuleDraft → PfoDraft → Result PfoDraft Cause
rule_put tables d t = checked (rule_checks tables t.expanded t.ends d) (with_rule (choices tables d.shared) d t)

-- what a whole statement says
abbrev pub statement_put : Site → List Table → PfoStatement → PfoDraft → Result PfoDraft Cause
statement_put site tables (statements.Rule d) t = rule_put tables d t
statement_put site tables (statements.Table d) t = Ok (record t { tables = t.tables ++ d.name ∷ [] })
statement_put site tables (statements.SkipOn v) t =
    Ok (record t { config = record t.config { skip = with_skipped (suc (length site.faces)) t.config.skip v.items } })
statement_put site tables s t = Ok t

-- where a statement is read: among the tables of the whole text, of which those ahead of it have their names. A statement defines
-- the table that it defines in FreeBSD's pf
abbrev pub setting_at : Site → List Table → PfoDraft → Setting
setting_at site tables t = record { site = site; tables = Some tables; taken = t.tables }

abbrev pub definition_step : List Word → PfoDraft → Result PfoDraft Cause
definition_step ws t =
    and_then (value_defined t.macros (value_behind ws)) (λ value. Ok (record t { macros = with_macro (name_defined ws) value t.macros }))

abbrev pub words_step : Site → List Table → List Word → PfoDraft → Result PfoDraft Cause
words_step site tables ws t =
    if is_definition ws then definition_step ws t
    else and_then (statement_read (setting_at site tables t) t.macros t.config.tags ws) (λ s. statement_put site tables s t)

-- a statement of the text, after those before it
abbrev pub line_step : Site → List Table → PfoDraft → Line → Result PfoDraft Cause
line_step site tables t line = words_step site tables line.words t

-- a text before its first statement
abbrev pub fresh_text : PfoDraft
fresh_text = record { macros = []; tables = []; expanded = 0; ends = []; config = record { skip = []; rules = []; tags = [] } }

abbrev pub ended : PfoDraft → Result PfoConfig Cause
ended t = Ok t.config

-- the configuration that statements spell on a site
abbrev pub spelled_by : Site → Lines → Result PfoConfig (Refusal Cause)
spelled_by site ls = lines_ended (line_step site (all_tables site ls.lines)) ended fresh_text ls

-- the configuration that a text spells on a site
abbrev pub spelled : Site → List ℕ → Result PfoConfig (Refusal Cause)
spelled site text = spelled_by site (statements_of text)
