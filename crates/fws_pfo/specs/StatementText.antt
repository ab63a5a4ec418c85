-- A statement: what its words say, macros replaced (pf.conf(5) of OpenBSD).
use Rattle.std.specs.Prelude.{ℕ, Result, Ok, Err, List, [], ◌∷◌, codes, if◌then◌else◌}
use Rattle.std.specs.Option.{option_map_or}
use Rattle.fws_num.specs.declared.word.Word.{Word}
use Rattle.fws_num.specs.Words.{is_sound}
use Rattle.fws_net.specs.declared.cause.Cause.{Cause}
use Rattle.fws_net.specs.declared.cause.Cause.TheVariants.{Syntax, LeftOut}
use Rattle.fws_net.specs.Reading.{and_then}
use Rattle.fws_pf.specs.declared.macros.Macro.{Macro}
use Rattle.fws_pf.specs.declared.statement.TableDraft.{TableDraft}
use Rattle.fws_pf.specs.declared.statement.TableExpects.{TableExpects}
use Rattle.fws_pf.specs.declared.statement.TableExpects.TheVariants as tables
use Rattle.fws_pf.specs.declared.value_draft.ValueDraft.{ValueDraft}
use Rattle.fws_pf.specs.declared.value_draft.ValueKind.TheVariants as kinds
use Rattle.fws_pf.specs.Drafts.{is}
use Rattle.fws_pf.specs.Macros.{meant}
use Rattle.fws_pf.specs.StatementText.{fault_at, fresh_table, list_begun, list_step, members_step, table_expecting, table_mark_step, table_name_step}
use Rattle.fws_pf.specs.Values.{Setting, ended_value, fresh_value, value_step}
use Rattle.fws_pfo.specs.declared.statement.PfoStatement.{PfoStatement}
use Rattle.fws_pfo.specs.declared.statement.PfoStatement.TheVariants as statements
use Rattle.fws_pfo.specs.Drawn.{rule_ended}
use Rattle.fws_pfo.specs.Keywords.{action_word, misplaced}
use Rattle.fws_pfo.specs.RuleText.{fresh_rule, rule_step}

-- Tables, whose words are those of FreeBSD's pf, but for which of them are keywords

abbrev pub const_step : Word → TableDraft → Result TableDraft Cause
const_step w d = if is w (codes "const") then Ok (table_expecting tables.List d) else list_begun (misplaced w.text) w d

abbrev pub persist_step : Word → TableDraft → Result TableDraft Cause
persist_step w d = if is w (codes "persist") then Ok (table_expecting tables.Const d) else const_step w d

abbrev pub table_expected_step : Setting → TableExpects → Word → TableDraft → Result TableDraft Cause
table_expected_step setting tables.Open w d = table_mark_step (codes "<") tables.Name w d
table_expected_step setting tables.Name w d = table_name_step setting w d
table_expected_step setting tables.Close w d = table_mark_step (codes ">") tables.Persist w d
table_expected_step setting tables.Persist w d = persist_step w d
table_expected_step setting tables.Const w d = const_step w d
table_expected_step setting tables.List w d = list_step w d
table_expected_step setting tables.Members w d = members_step setting w d

abbrev pub table_step : Setting → Word → TableDraft → Result TableDraft Cause
table_step setting w d = table_expected_step setting d.expects w d

-- Statements

-- a first word that begins no rule: `no` and `scrub` are keywords, but begin no statement that is read
abbrev pub other_begun : Word → Result PfoStatement Cause
other_begun w =
    if is w (codes "table") then Ok (statements.Table fresh_table)
    else if is w (codes "set") then Ok statements.Set
    else if is w (codes "no") then Err LeftOut
    else if is w (codes "scrub") then Err LeftOut
    else Err (misplaced w.text)

abbrev pub begun : List (List ℕ) → Word → Result PfoStatement Cause
begun tags w = option_map_or (λ kind. Ok (statements.Rule (fresh_rule kind tags))) (action_word w.text) (other_begun w)

-- `set skip` is the one setting that has an effect
abbrev pub set_step : Word → Result PfoStatement Cause
set_step w = Ok (if is w (codes "skip") then statements.Skip else statements.Idle)

abbrev pub skip_step : Word → Result PfoStatement Cause
skip_step w = if is w (codes "on") then Ok (statements.SkipOn (fresh_value kinds.Interface)) else Err (misplaced w.text)

-- nothing stands behind the interfaces
abbrev pub skip_on_step : Setting → Word → ValueDraft → Result PfoStatement Cause
skip_on_step setting w v = and_then (value_step setting w v) (λ next. if next.1 then Ok (statements.SkipOn next.0) else Err Syntax)

-- a word of a statement, where the text has had these tags
abbrev pub statement_step : Setting → List (List ℕ) → Word → PfoStatement → Result PfoStatement Cause
statement_step setting tags w statements.Begun = begun tags w
statement_step setting tags w (statements.Rule d) = and_then (rule_step setting w d) (λ next. Ok (statements.Rule next))
statement_step setting tags w (statements.Table d) = and_then (table_step setting w d) (λ next. Ok (statements.Table next))
statement_step setting tags w statements.Set = set_step w
statement_step setting tags w statements.Skip = skip_step w
statement_step setting tags w (statements.SkipOn v) = skip_on_step setting w v
statement_step setting tags w statements.Idle = Ok statements.Idle

-- why a word is refused that can't be judged, or whose macro isn't there: behind a network that lacks `bitmask` the network is
-- refused ahead of it
abbrev pub fault : PfoStatement → Cause → Cause
fault (statements.Rule d) cause = fault_at d.shared.expects cause
fault _ cause = cause

-- a word out of a macro, or one that stands there
abbrev pub word_taken : Setting → List (List ℕ) → Word → PfoStatement → Result PfoStatement Cause
word_taken setting tags w s = if is_sound w then statement_step setting tags w s else Err (fault s Syntax)

abbrev pub words_taken : Setting → List (List ℕ) → List Word → PfoStatement → Result PfoStatement Cause
words_taken setting tags [] s = Ok s
words_taken setting tags (w ∷ ws) s = and_then (word_taken setting tags w s) (words_taken setting tags ws)

-- the words for which a word stands
abbrev pub meant_taken : Setting → List (List ℕ) → Result (List Word) Cause → PfoStatement → Result PfoStatement Cause
meant_taken setting tags (Ok ws) s = words_taken setting tags ws s
meant_taken setting tags (Err cause) s = Err (fault s cause)

abbrev pub raw_taken : Setting → List Macro → List (List ℕ) → Word → PfoStatement → Result PfoStatement Cause
raw_taken setting macros tags w s = if is_sound w then meant_taken setting tags (meant macros w) s else Err (fault s Syntax)

-- the words of a statement, from left to right; the first that is refused decides
abbrev pub raws_taken : Setting → List Macro → List (List ℕ) → List Word → PfoStatement → Result PfoStatement Cause
raws_taken setting macros tags [] s = Ok s
raws_taken setting macros tags (w ∷ ws) s = and_then (raw_taken setting macros tags w s) (raws_taken setting macros tags ws)

-- The end of a statement

abbrev pub table_ended : TableExpects → TableDraft → Result PfoStatement Cause
table_ended tables.Members d =
    option_map_or (λ v. Ok (statements.Table (record d { members = v }))) (ended_value d.members.expects d.members) (Err Syntax)
table_ended _ d = Err Syntax

-- the whole statement; one that ends too early is Syntax
abbrev pub statement_ended : PfoStatement → Result PfoStatement Cause
statement_ended (statements.Rule d) = and_then (rule_ended d) (λ whole. Ok (statements.Rule whole))
statement_ended (statements.Table d) = table_ended d.expects d
statement_ended statements.Skip = Err Syntax
statement_ended (statements.SkipOn v) = option_map_or (λ whole. Ok (statements.SkipOn whole)) (ended_value v.expects v) (Err Syntax)
statement_ended s = Ok s

-- what a statement says, before the checks of the whole
abbrev pub statement_read : Setting → List Macro → List (List ℕ) → List Word → Result PfoStatement Cause
statement_read setting macros tags ws = and_then (raws_taken setting macros tags ws statements.Begun) statement_ended
