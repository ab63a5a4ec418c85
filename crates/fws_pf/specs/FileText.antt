-- A text of pf.conf(5): its configuration, or its first refused statement with the cause.
use Rattle.std.specs.Prelude.{ℕ, suc, ◌+◌, Bool, false, ◌&&◌, not, Option, Some, None, Result, Ok, Err, List, [], ◌∷◌, ◌++◌, length, map, codes, if◌then◌else◌}
use Rattle.std.specs.Option.{option_map_or}
use Rattle.std.specs.Str.{bytes_eq}
use Rattle.fws_iv.specs.declared.iv.Iv.{Iv}
use Rattle.fws_iv.specs.Ivs.{with_ranges}
use Rattle.fws_num.specs.declared.lines.Line.{Line}
use Rattle.fws_num.specs.declared.lines.Lines.{Lines}
use Rattle.fws_num.specs.declared.word.Word.{Word}
use Rattle.fws_num.specs.Words.{is_sound}
use Rattle.fws_net.specs.declared.cause.Cause.{Cause}
use Rattle.fws_net.specs.declared.condition.Lit.{Lit}
use Rattle.fws_net.specs.declared.site.Site.{Site}
use Rattle.fws_net.specs.Causes.{checked}
use Rattle.fws_net.specs.Reading.{Refusal, and_then, lines_ended}
use Rattle.fws_rules.specs.Literals.{one}
use Rattle.fws_pf.specs.declared.config.PfConfig.{PfConfig}
use Rattle.fws_pf.specs.declared.macros.Macro.{Macro}
use Rattle.fws_pf.specs.declared.rule_draft.Choice.{Choice}
use Rattle.fws_pf.specs.declared.rule_draft.RuleDraft.{RuleDraft}
use Rattle.fws_pf.specs.declared.rule_draft.Verb.{Verb}
use Rattle.fws_pf.specs.declared.rule_draft.Verb.TheVariants as verbs
use Rattle.fws_pf.specs.declared.statement.Statement.{Statement}
use Rattle.fws_pf.specs.declared.statement.Statement.TheVariants as statements
use Rattle.fws_pf.specs.declared.tables.Table.{Table}
use Rattle.fws_pf.specs.declared.text_draft.PfDraft.{PfDraft}
use Rattle.fws_pf.specs.declared.value_draft.Item.{Item}
use Rattle.fws_pf.specs.declared.value_draft.Part.{Part}
use Rattle.fws_pf.specs.declared.value_draft.Part.TheVariants as parts
use Rattle.fws_pf.specs.Drawn.{choices, condition_count, conditions, expanded_with, filter_rule, rule_checks, translation}
use Rattle.fws_pf.specs.Macros.{is_name, meant, value_defined, with_macro}
use Rattle.fws_pf.specs.Statements.{is_mark, statements_of}
use Rattle.fws_pf.specs.StatementText.{statement_read}
use Rattle.fws_pf.specs.Tables.{empty_table, with_members}
use Rattle.fws_pf.specs.Values.{Setting, from_below, is_any_mark}

-- Definitions of macros

-- the words define a macro: a name and `=` stand first
abbrev pub is_definition : List Word → Bool
is_definition (name ∷ equals ∷ ws) = is_sound name && is_name name.text && is_mark equals (codes "=")
is_definition _ = false

abbrev pub name_defined : List Word → List ℕ
name_defined [] = []
name_defined (name ∷ ws) = name.text

abbrev pub value_behind : List Word → List Word
value_behind (name ∷ equals ∷ ws) = ws
value_behind _ = []

-- Tables, which are known ahead of the text

-- where the names of tables aren't known yet, each may be one
abbrev pub unknowing : Site → Setting
unknowing site = record { site = site; tables = None; taken = [] }

-- the words ahead of the first that can't be judged
abbrev pub with_front : List Word → List Word → List Word
with_front [] rest = rest
with_front (w ∷ ws) rest = if is_sound w then w ∷ with_front ws rest else []

abbrev pub with_meant : Result (List Word) Cause → List Word → List Word
with_meant (Ok ws) rest = with_front ws rest
with_meant (Err cause) rest = []

-- the words of a statement, macros replaced, ahead of the first that can't be judged
abbrev pub readable : List Macro → List Word → List Word
readable macros [] = []
readable macros (w ∷ ws) = if is_sound w then with_meant (meant macros w) (readable macros ws) else []

-- the name of the table that words define: `table`, `<`, a name and `>`, whatever stands behind
abbrev pub table_defined : List Word → Option (List ℕ)
table_defined (a ∷ b ∷ c ∷ d ∷ ws) =
    if bytes_eq a.text (codes "table") && is_mark b (codes "<") && not (is_any_mark c) && is_mark d (codes ">") then Some c.text else None
table_defined _ = None

-- what a statement puts into its table; nothing where it is refused
abbrev pub with_read : Result Statement Cause → Table → Table
with_read (Ok (statements.Table d)) t = with_members d.members.items t
with_read _ t = t

abbrev pub table_of : Site → List Macro → List Word → List Table
table_of site macros ws =
    option_map_or (λ name. with_read (statement_read (unknowing site) macros [] ws) (empty_table name) ∷ []) (table_defined (readable macros ws)) []

-- a refused definition changes no macro
abbrev pub with_value : List ℕ → Result (List Word) Cause → List Macro → List Macro
with_value name (Ok words) macros = with_macro name words macros
with_value name (Err cause) macros = macros

-- the tables of statements beside others, refused ones among them
abbrev pub tables_from : Site → List Macro → List Table → List Line → List Table
tables_from site macros tables [] = tables
tables_from site macros tables (line ∷ lines) =
    if is_definition line.words
    then tables_from site (with_value (name_defined line.words) (value_defined macros (value_behind line.words)) macros) tables lines
    else tables_from site macros (tables ++ table_of site macros line.words) lines

abbrev pub all_tables : Site → List Line → List Table
all_tables site lines = tables_from site [] [] lines

-- What statements say

-- the entries of an interface, or of all others up to the last one
abbrev pub skipped_ranges : ℕ → Bool → Part → List Iv
skipped_ranges last negated (parts.Set (x ∷ xs)) = if negated then from_below 1 x.lo ++ from_below (x.lo + 1) (last + 1) else one x.lo x.lo
skipped_ranges last negated _ = []

-- the interfaces that are skipped, with those of a further statement
abbrev pub with_skipped : ℕ → List Iv → List Item → List Iv
with_skipped last skip [] = skip
with_skipped last skip (item ∷ items) = with_skipped last (with_ranges skip (skipped_ranges last item.negated item.part)) items

-- the rules of a statement, one for each condition, behind the others of its kind
abbrev pub with_rules : Verb → RuleDraft → List (List Lit) → PfConfig → PfConfig
with_rules verbs.Rdr d conds c = record c { rdr = c.rdr ++ map (translation d) conds; tags = d.tags }
with_rules verbs.Nat d conds c = record c { nat = c.nat ++ map (translation d) conds; tags = d.tags }
with_rules _ d conds c = record c { filter = c.filter ++ map (filter_rule d) conds; tags = d.tags }

abbrev pub with_rule : List Choice → RuleDraft → PfDraft → PfDraft
with_rule cs d t = record t { expanded = expanded_with t.expanded (condition_count cs); config = with_rules d.verb d (conditions cs) t.config }

-- a whole rule, unless a check of the statement fails
abbrev pub rule_put : List Table → RuleDraft → PfDraft → Result PfDraft Cause
rule_put tables d t = checked (rule_checks tables t.expanded d) (with_rule (choices tables d) d t)

-- what a whole statement says
abbrev pub statement_put : Site → List Table → Statement → PfDraft → Result PfDraft Cause
statement_put site tables (statements.Rule d) t = rule_put tables d t
statement_put site tables (statements.Table d) t = Ok (record t { tables = t.tables ++ d.name ∷ [] })
statement_put site tables (statements.SkipOn v) t =
    Ok (record t { config = record t.config { skip = with_skipped (suc (length site.faces)) t.config.skip v.items } })
statement_put site tables s t = Ok t

-- where a statement is read: among the tables of the whole text, of which those ahead of it have their names
abbrev pub setting_at : Site → List Table → PfDraft → Setting
setting_at site tables t = record { site = site; tables = Some tables; taken = t.tables }

abbrev pub definition_step : List Word → PfDraft → Result PfDraft Cause
definition_step ws t =
    and_then (value_defined t.macros (value_behind ws)) (λ value. Ok (record t { macros = with_macro (name_defined ws) value t.macros }))

abbrev pub words_step : Site → List Table → List Word → PfDraft → Result PfDraft Cause
words_step site tables ws t =
    if is_definition ws then definition_step ws t
    else and_then (statement_read (setting_at site tables t) t.macros t.config.tags ws) (λ s. statement_put site tables s t)

-- a statement of the text, after those before it
abbrev pub line_step : Site → List Table → PfDraft → Line → Result PfDraft Cause
line_step site tables t line = words_step site tables line.words t

-- a text before its first statement
abbrev pub fresh_text : PfDraft
fresh_text = record {
  macros = [];
  tables = [];
  expanded = 0;
  config = record { skip = []; rdr = []; nat = []; filter = []; tags = [] };
}

abbrev pub ended : PfDraft → Result PfConfig Cause
ended t = Ok t.config

-- the configuration that statements spell on a site
abbrev pub spelled_by : Site → Lines → Result PfConfig (Refusal Cause)
spelled_by site ls = lines_ended (line_step site (all_tables site ls.lines)) ended fresh_text ls

-- the configuration that a text spells on a site
abbrev pub spelled : Site → List ℕ → Result PfConfig (Refusal Cause)
spelled site text = spelled_by site (statements_of text)
