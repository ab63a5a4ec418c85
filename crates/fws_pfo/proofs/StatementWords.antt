-- What holds of a statement, word by word.
use Rattle.std.proofs.Common.{◌≡◌, ℕ, Bool, true, false, cond, Result, Ok, Err, List, [], ◌∷◌, length, codes, IfOk}
use Rattle.std.specs.List.{list_all}
use Rattle.fws_num.specs.declared.word.Word.{Word}
use Rattle.fws_num.specs.Words.{is_sound}
use Rattle.fws_net.specs.declared.cause.Cause.{Cause}
use Rattle.fws_net.specs.declared.cause.Cause.TheVariants.{Syntax, LeftOut}
use Rattle.fws_pf.specs.declared.macros.Macro.{Macro}
use Rattle.fws_pf.specs.declared.statement.TableDraft.{TableDraft}
use Rattle.fws_pf.specs.declared.statement.TableExpects.{TableExpects}
use Rattle.fws_pf.specs.declared.statement.TableExpects.TheVariants as tables
use Rattle.fws_pf.specs.declared.value_draft.ValueDraft.{ValueDraft}
use Rattle.fws_pf.specs.declared.value_draft.ValueKind.TheVariants as kinds
use Rattle.fws_pf.specs.Drafts.{is}
use Rattle.fws_pf.specs.Macros.{meant}
use Rattle.fws_pf.specs.StatementText.{fresh_table}
use Rattle.fws_pf.specs.Values.{Setting, ended_value, fresh_value, value_step}
use Rattle.fws_pf.proofs.Outcomes.{then_holds, then_known, either_holds, found_holds, known_holds}
use Rattle.fws_pf.proofs.Readings.{item_fits, any_sign, entry_part, last_entry, ReadsInterfaces, fresh_interfaces, interfaces_read, ended_reads}
use Rattle.fws_pfo.specs.declared.statement.PfoStatement.{PfoStatement}
use Rattle.fws_pfo.specs.declared.statement.PfoStatement.TheVariants as statements
use Rattle.fws_pfo.specs.Drawn.{rule_ended}
use Rattle.fws_pfo.specs.Keywords.{action_word, misplaced}
use Rattle.fws_pfo.specs.RuleText.{fresh_rule, rule_step}
use Rattle.fws_pfo.specs.StatementText.{fault, meant_taken, other_begun, raw_taken, raws_taken, skip_on_step, statement_ended, statement_read, statement_step, table_ended, table_step, word_taken, words_taken}
use Rattle.fws_pfo.proofs.RuleWords.{Known, Begun, rule_goes_on, rule_ends, fresh_known}

-- what is known of a whole statement: of its rule, or of the interfaces that it skips, up to the last one
abbrev pub Whole : ℕ → ℕ → PfoStatement → Type 0
Whole before last (statements.Rule d) = Known before d
Whole before last (statements.SkipOn v) = list_all (item_fits kinds.Interface any_sign (entry_part last)) v.items ≡ true
Whole before last _ = Unit {0}

-- the setting of the statement, and the tags of the text ahead of it
module _ (setting : Setting) (tags : List (List ℕ)) where
  -- what is known of a statement so far
  abbrev Told : PfoStatement → Type 0
  Told (statements.Rule d) = Begun (length tags) d
  Told (statements.SkipOn v) = ReadsInterfaces (last_entry setting) v
  Told _ = Unit {0}

  -- One word

  other_begins : (w : Word) → IfOk (other_begun w) Told
  other_begins w =
      either_holds Told (is w (codes "table")) (Ok (statements.Table fresh_table)) _ (λ e. tt)
      (λ e. either_holds Told (is w (codes "set")) (Ok statements.Set) _ (λ k. tt)
      (λ k. either_holds Told (is w (codes "no")) (Err LeftOut) _ (λ l. tt)
      (λ l. either_holds Told (is w (codes "scrub")) (Err LeftOut) (Err (misplaced w.text)) (λ m. tt) (λ m. tt))))

  set_chosen : (skips : Bool) → Told (cond skips statements.Skip statements.Idle)
  set_chosen true = tt
  set_chosen false = tt

  skip_on_told : (w : Word) (v : ValueDraft) → ReadsInterfaces (last_entry setting) v → IfOk (skip_on_step setting w v) Told
  skip_on_told w v h =
      then_known (λ next. ReadsInterfaces (last_entry setting) next.0) Told (value_step setting w v) _ (interfaces_read setting w v h)
      (λ next k. either_holds Told next.1 (Ok (statements.SkipOn next.0)) (Err Syntax) (λ e. k) (λ e. tt))

  step_told : (w : Word) (s : PfoStatement) → Told s → IfOk (statement_step setting tags w s) Told
  step_told w statements.Begun h =
      found_holds Told (action_word w.text) (λ kind. Ok (statements.Rule (fresh_rule kind tags))) (other_begun w) (λ kind. fresh_known kind tags) (other_begins w)
  step_told w (statements.Rule d) h =
      then_known (Begun (length tags)) Told (rule_step setting w d) (λ next. Ok (statements.Rule next)) (rule_goes_on (length tags) setting w d h) (λ next k. k)
  step_told w (statements.Table d) h = then_holds Told (table_step setting w d) (λ next. Ok (statements.Table next)) (λ next. tt)
  step_told w statements.Set h = set_chosen (is w (codes "skip"))
  step_told w statements.Skip h =
      either_holds Told (is w (codes "on")) (Ok (statements.SkipOn (fresh_value kinds.Interface))) (Err (misplaced w.text)) (λ e. fresh_interfaces (last_entry setting)) (λ e. tt)
  step_told w (statements.SkipOn v) h = skip_on_told w v h
  step_told w statements.Idle h = tt

  -- All words

  word_told : (w : Word) (s : PfoStatement) → Told s → IfOk (word_taken setting tags w s) Told
  word_told w s h = either_holds Told (is_sound w) (statement_step setting tags w s) (Err (fault s Syntax)) (λ e. step_told w s h) (λ e. tt)

  words_told : (ws : List Word) (s : PfoStatement) → Told s → IfOk (words_taken setting tags ws s) Told
  words_told [] s h = h
  words_told (w ∷ ws) s h = then_known Told Told (word_taken setting tags w s) (words_taken setting tags ws) (word_told w s h) (λ next k. words_told ws next k)

  meant_told : (read : Result (List Word) Cause) (s : PfoStatement) → Told s → IfOk (meant_taken setting tags read s) Told
  meant_told (Ok ws) s h = words_told ws s h
  meant_told (Err cause) s h = tt

  raw_told : (macros : List Macro) (w : Word) (s : PfoStatement) → Told s → IfOk (raw_taken setting macros tags w s) Told
  raw_told macros w s h = either_holds Told (is_sound w) (meant_taken setting tags (meant macros w) s) (Err (fault s Syntax)) (λ e. meant_told (meant macros w) s h) (λ e. tt)

  raws_told : (macros : List Macro) (ws : List Word) (s : PfoStatement) → Told s → IfOk (raws_taken setting macros tags ws s) Told
  raws_told macros [] s h = h
  raws_told macros (w ∷ ws) s h =
      then_known Told Told (raw_taken setting macros tags w s) (raws_taken setting macros tags ws) (raw_told macros w s h) (λ next k. raws_told macros ws next k)

  -- The whole statement

  abbrev Ended : PfoStatement → Type 0
  Ended s = Whole (length tags) (last_entry setting) s

  table_ends : (expects : TableExpects) (d : TableDraft) → IfOk (table_ended expects d) Ended
  table_ends tables.Members d = found_holds Ended (ended_value d.members.expects d.members) (λ v. Ok (statements.Table (record d { members = v }))) (Err Syntax) (λ v. tt) tt
  table_ends _ d = tt

  statement_ends : (s : PfoStatement) → Told s → IfOk (statement_ended s) Ended
  statement_ends (statements.Rule d) h =
      then_known (Known (length tags)) Ended (rule_ended d) (λ whole. Ok (statements.Rule whole)) (rule_ends (length tags) d h) (λ whole k. k)
  statement_ends (statements.Table d) h = table_ends d.expects d
  statement_ends (statements.SkipOn v) h =
      known_holds (ReadsInterfaces (last_entry setting)) Ended (ended_value v.expects v) (λ whole. Ok (statements.SkipOn whole)) (Err Syntax)
      (ended_reads kinds.Interface any_sign (entry_part (last_entry setting)) v h) (λ whole k. k.items) tt
  statement_ends statements.Skip h = tt
  statement_ends statements.Begun h = tt
  statement_ends statements.Set h = tt
  statement_ends statements.Idle h = tt

  pub statement_known : (macros : List Macro) (ws : List Word) → IfOk (statement_read setting macros tags ws) (Whole (length tags) (last_entry setting))
  statement_known macros ws =
      then_known Told Ended (raws_taken setting macros tags ws statements.Begun) statement_ended (raws_told macros ws statements.Begun tt) statement_ends
