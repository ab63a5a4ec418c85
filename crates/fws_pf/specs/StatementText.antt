-- A statement: what its words say, macros replaced (pf.conf(5)).
use Rattle.std.specs.Prelude.{ℕ, true, false, Result, Ok, Err, List, [], ◌∷◌, codes, if◌then◌else◌}
use Rattle.std.specs.Option.{option_map_or}
use Rattle.fws_num.specs.declared.word.Word.{Word}
use Rattle.fws_num.specs.Words.{is_sound}
use Rattle.fws_net.specs.declared.cause.Cause.{Cause}
use Rattle.fws_net.specs.declared.cause.Cause.TheVariants.{Syntax, LeftOut}
use Rattle.fws_net.specs.Reading.{and_then}
use Rattle.fws_pf.specs.declared.macros.Macro.{Macro}
use Rattle.fws_pf.specs.declared.rule_draft.Expects.{Expects}
use Rattle.fws_pf.specs.declared.rule_draft.Expects.TheVariants as expect
use Rattle.fws_pf.specs.declared.rule_draft.Verb.TheVariants as verbs
use Rattle.fws_pf.specs.declared.statement.Statement.{Statement}
use Rattle.fws_pf.specs.declared.statement.Statement.TheVariants as statements
use Rattle.fws_pf.specs.declared.statement.TableDraft.{TableDraft}
use Rattle.fws_pf.specs.declared.statement.TableExpects.{TableExpects}
use Rattle.fws_pf.specs.declared.statement.TableExpects.TheVariants as tables
use Rattle.fws_pf.specs.declared.value_draft.ValueDraft.{ValueDraft}
use Rattle.fws_pf.specs.declared.value_draft.ValueExpects.TheVariants as values
use Rattle.fws_pf.specs.declared.value_draft.ValueKind.TheVariants as kinds
use Rattle.fws_pf.specs.declared.words.ActionWord.{ActionWord}
use Rattle.fws_pf.specs.declared.words.ActionWord.TheVariants as actions
use Rattle.fws_pf.specs.Drafts.{is}
use Rattle.fws_pf.specs.Drawn.{rule_ended}
use Rattle.fws_pf.specs.Keywords.{action_word, misplaced}
use Rattle.fws_pf.specs.Macros.{meant}
use Rattle.fws_pf.specs.RuleText.{fresh_rule, rule_step}
use Rattle.fws_pf.specs.Statements.{is_mark}
use Rattle.fws_pf.specs.Values.{Setting, ended_value, fresh_value, is_taken, no_mark, value_step}

-- Tables

abbrev pub fresh_table : TableDraft
fresh_table = record { name = []; expects = tables.Open; members = fresh_value kinds.Member }

abbrev pub table_expecting : TableExpects → TableDraft → TableDraft
table_expecting next d = record d { expects = next }

-- punctuation alone stands here
abbrev pub table_mark_step : List ℕ → TableExpects → Word → TableDraft → Result TableDraft Cause
table_mark_step mark next w d = if is_mark w mark then Ok (table_expecting next d) else Err Syntax

-- a name that no table has ahead of this one
abbrev pub table_name_step : Setting → Word → TableDraft → Result TableDraft Cause
table_name_step setting w d =
    no_mark w (if is_taken setting w.text then Err Syntax else Ok (record d { name = w.text; expects = tables.Close }))

-- a list begins; any other word is refused for this cause
abbrev pub list_begun : Cause → Word → TableDraft → Result TableDraft Cause
list_begun cause w d =
    if is_mark w (codes "{")
    then Ok (record d { expects = tables.Members; members = record d.members { in_list = true; expects = values.First } }) else Err cause

abbrev pub const_step : Word → TableDraft → Result TableDraft Cause
const_step w d = if is w (codes "const") then Ok (table_expecting tables.List d) else list_begun (misplaced w.text) w d

abbrev pub persist_step : Word → TableDraft → Result TableDraft Cause
persist_step w d = if is w (codes "persist") then Ok (table_expecting tables.Const d) else const_step w d

abbrev pub list_step : Word → TableDraft → Result TableDraft Cause
list_step w d = list_begun (if is w (codes "file") then LeftOut else Syntax) w d

-- an address, or a word of one; nothing stands behind the list
abbrev pub members_step : Setting → Word → TableDraft → Result TableDraft Cause
members_step setting w d =
    and_then (value_step setting w d.members) (λ next. if next.1 then Ok (record d { members = next.0 }) else Err Syntax)

abbrev pub table_expected_step : Setting → TableExpects → Word → TableDraft → Result TableDraft Cause
table_expected_step setting tables.Open w d = table_mark_step (codes "<") tables.Name w d
table_expected_step setting tables.Name w d = table_name_step setting w d
table_expected_step setting tables.Close w d = table_mark_step (codes ">") tables.Persist w d
table_expected_step setting tables.Persist w d = persist_step w d
table_expected_step setting tables.Const w d = const_step w d
table_expected_step setting tables.List w d = list_step w d
table_expected_step setting tables.Members w d = members_step setting w d

abbrev pub table_step : Setting → Word → TableDraft → Result TableDraft Cause
table_step setting w d = table_expected_step setting d.expects w d

-- Statements

abbrev pub rule_begun : List (List ℕ) → ActionWord → Statement
rule_begun tags actions.Block = statements.Rule (fresh_rule verbs.Block false expect.Answer tags)
rule_begun tags actions.Pass = statements.Rule (fresh_rule verbs.Pass false expect.Way tags)
rule_begun tags actions.Rdr = statements.Rule (fresh_rule verbs.Rdr false expect.Past tags)
rule_begun tags actions.Nat = statements.Rule (fresh_rule verbs.Nat false expect.Past tags)

-- a first word that begins no rule
abbrev pub other_begun : Word → Result Statement Cause
other_begun w =
    if is w (codes "no") then Ok statements.Negated
    else if is w (codes "table") then Ok (statements.Table fresh_table)
    else if is w (codes "set") then Ok statements.Set
    else if is w (codes "scrub") then Ok statements.Idle
    else Err (misplaced w.text)

abbrev pub begun : List (List ℕ) → Word → Result Statement Cause
begun tags w = option_map_or (λ action. Ok (rule_begun tags action)) (action_word w.text) (other_begun w)

-- a translation behind `no`
abbrev pub negated : List (List ℕ) → Word → Result Statement Cause
negated tags w =
    if is w (codes "rdr") then Ok (statements.Rule (fresh_rule verbs.Rdr true expect.Past tags))
    else if is w (codes "nat") then Ok (statements.Rule (fresh_rule verbs.Nat true expect.Past tags))
    else Err (misplaced w.text)

-- `set skip` is the one setting that has an effect
abbrev pub set_step : Word → Result Statement Cause
set_step w = Ok (if is w (codes "skip") then statements.Skip else statements.Idle)

abbrev pub skip_step : Word → Result Statement Cause
skip_step w = if is w (codes "on") then Ok (statements.SkipOn (fresh_value kinds.Interface)) else Err (misplaced w.text)

-- nothing stands behind the interfaces
abbrev pub skip_on_step : Setting → Word → ValueDraft → Result Statement Cause
skip_on_step setting w v = and_then (value_step setting w v) (λ next. if next.1 then Ok (statements.SkipOn next.0) else Err Syntax)

-- a word of a statement, where the text has had these tags
abbrev pub statement_step : Setting → List (List ℕ) → Word → Statement → Result Statement Cause
statement_step setting tags w statements.Begun = begun tags w
statement_step setting tags w statements.Negated = negated tags w
statement_step setting tags w (statements.Rule d) = and_then (rule_step setting w d) (λ next. Ok (statements.Rule next))
statement_step setting tags w (statements.Table d) = and_then (table_step setting w d) (λ next. Ok (statements.Table next))
statement_step setting tags w statements.Set = set_step w
statement_step setting tags w statements.Skip = skip_step w
statement_step setting tags w (statements.SkipOn v) = skip_on_step setting w v
statement_step setting tags w statements.Idle = Ok statements.Idle

abbrev pub fault_at : Expects → Cause → Cause
fault_at expect.Bitmask cause = LeftOut
fault_at _ cause = cause

-- why a word is refused that can't be judged, or whose macro isn't there: behind a network that lacks `bitmask` the network is
-- refused ahead of it
abbrev pub fault : Statement → Cause → Cause
fault (statements.Rule d) cause = fault_at d.expects cause
fault _ cause = cause

-- a word out of a macro, or one that stands there
abbrev pub word_taken : Setting → List (List ℕ) → Word → Statement → Result Statement Cause
word_taken setting tags w s = if is_sound w then statement_step setting tags w s else Err (fault s Syntax)

abbrev pub words_taken : Setting → List (List ℕ) → List Word → Statement → Result Statement Cause
words_taken setting tags [] s = Ok s
words_taken setting tags (w ∷ ws) s = and_then (word_taken setting tags w s) (words_taken setting tags ws)

-- the words for which a word stands
abbrev pub meant_taken : Setting → List (List ℕ) → Result (List Word) Cause → Statement → Result Statement Cause
meant_taken setting tags (Ok ws) s = words_taken setting tags ws s
meant_taken setting tags (Err cause) s = Err (fault s cause)

abbrev pub raw_taken : Setting → List Macro → List (List ℕ) → Word → Statement → Result Statement Cause
raw_taken setting macros tags w s = if is_sound w then meant_taken setting tags (meant macros w) s else Err (fault s Syntax)

-- the words of a statement, from left to right; the first that is refused decides
abbrev pub raws_taken : Setting → List Macro → List (List ℕ) → List Word → Statement → Result Statement Cause
raws_taken setting macros tags [] s = Ok s
raws_taken setting macros tags (w ∷ ws) s = and_then (raw_taken setting macros tags w s) (raws_taken setting macros tags ws)

-- The end of a statement

abbrev pub table_ended : TableExpects → TableDraft → Result Statement Cause
table_ended tables.Members d =
    option_map_or (λ v. Ok (statements.Table (record d { members = v }))) (ended_value d.members.expects d.members) (Err Syntax)
table_ended _ d = Err Syntax

-- the whole statement; one that ends too early is Syntax
abbrev pub statement_ended : Statement → Result Statement Cause
statement_ended statements.Negated = Err Syntax
statement_ended (statements.Rule d) = and_then (rule_ended d) (λ whole. Ok (statements.Rule whole))
statement_ended (statements.Table d) = table_ended d.expects d
statement_ended statements.Skip = Err Syntax
statement_ended (statements.SkipOn v) = option_map_or (λ whole. Ok (statements.SkipOn whole)) (ended_value v.expects v) (Err Syntax)
statement_ended s = Ok s

-- what a statement says, before the checks of the whole
abbrev pub statement_read : Setting → List Macro → List (List ℕ) → List Word → Result Statement Cause
statement_read setting macros tags ws = and_then (raws_taken setting macros tags ws statements.Begun) statement_ended
