-- The words of a table, in a dialect that refuses a word for this cause where a keyword may stand.
use Rattle.std.specs.Prelude.{Result, Ok, codes, if◌then◌else◌}
use Rattle.fws_num.specs.declared.word.Word.{Word}
use Rattle.fws_net.specs.declared.cause.Cause.{Cause}
use Rattle.fws_pf.specs.declared.statement.TableDraft.{TableDraft}
use Rattle.fws_pf.specs.declared.statement.TableExpects.{TableExpects}
use Rattle.fws_pf.specs.declared.statement.TableExpects.TheVariants as tables
use Rattle.fws_pf.specs.Drafts.{is}
use Rattle.fws_pf.specs.StatementText.{list_begun, list_step, members_step, table_expecting, table_mark_step, table_name_step}
use Rattle.fws_pf.specs.Values.{Setting}
use Rattle.fws_pf_words.specs.declared.table_draft.LongTable.{LongTable}

-- the draft of a table
abbrev pub table_seen : LongTable → TableDraft
table_seen t = record { name = t.name; expects = t.expects; members = t.members }

abbrev pub const_step : Cause → Word → TableDraft → Result TableDraft Cause
const_step cause w d = if is w (codes "const") then Ok (table_expecting tables.List d) else list_begun cause w d

abbrev pub persist_step : Cause → Word → TableDraft → Result TableDraft Cause
persist_step cause w d = if is w (codes "persist") then Ok (table_expecting tables.Const d) else const_step cause w d

abbrev pub table_expected_step : Cause → Setting → TableExpects → Word → TableDraft → Result TableDraft Cause
table_expected_step cause setting tables.Open w d = table_mark_step (codes "<") tables.Name w d
table_expected_step cause setting tables.Name w d = table_name_step setting w d
table_expected_step cause setting tables.Close w d = table_mark_step (codes ">") tables.Persist w d
table_expected_step cause setting tables.Persist w d = persist_step cause w d
table_expected_step cause setting tables.Const w d = const_step cause w d
table_expected_step cause setting tables.List w d = list_step w d
table_expected_step cause setting tables.Members w d = members_step setting w d

-- a word of a table
abbrev pub table_step : Cause → Setting → Word → TableDraft → Result TableDraft Cause
table_step cause setting w d = table_expected_step cause setting d.expects w d
