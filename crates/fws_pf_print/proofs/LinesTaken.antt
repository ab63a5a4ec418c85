-- Lines of rules and comments, taken one after the other.
use Rattle.std.proofs.Common.{◌≡◌, ℕ, suc, true, false, cond, ◌&&◌, not, nat_eq, Some, None, Result, Ok, Err, List, [], ◌∷◌, ◌++◌, map, codes, refl, ap, sym, ◌∙◌}
use Rattle.std.proofs.lemmas.Bool.{and_from, and_parts, and_right}
use Rattle.std.specs.List.{list_all}
use Rattle.std.specs.Option.{option_map_or}
use Rattle.std.specs.Str.{bytes_eq}
use Rattle.fws_num.specs.declared.lines.Line.{Line}
use Rattle.fws_num.specs.declared.word.Word.{Word}
use Rattle.fws_num.specs.Comments.{begins_hash}
use Rattle.fws_num.specs.Lines.{is_indented}
use Rattle.fws_num.specs.Words.{is_printed, is_sound, plain_word}
use Rattle.fws_num.specs.Written.{ends_in, is_one_line, spaced}
use Rattle.fws_net.specs.declared.cause.Cause.{Cause}
use Rattle.fws_net.specs.declared.cause.Cause.TheVariants.{Syntax}
use Rattle.fws_net.specs.declared.site.Site.{Site}
use Rattle.fws_net.specs.Reading.{and_then, lines_read, located}
use Rattle.fws_pf.specs.declared.config.PfConfig.{PfConfig}
use Rattle.fws_pf.specs.declared.rule_draft.RuleDraft.{RuleDraft}
use Rattle.fws_pf.specs.declared.statement.Statement.{Statement}
use Rattle.fws_pf.specs.declared.statement.Statement.TheVariants as statements
use Rattle.fws_pf.specs.declared.tables.Table.{Table}
use Rattle.fws_pf.specs.declared.text_draft.PfDraft.{PfDraft}
use Rattle.fws_pf.specs.Drawn.{rule_ended}
use Rattle.fws_pf.specs.FileText.{definition_step, is_definition, line_step, readable, statement_put, table_defined, table_of, tables_from, unknowing, with_meant, with_read, words_step}
use Rattle.fws_rules.specs.Interfaces.{before_mark}
use Rattle.fws_pf.specs.Tables.{empty_table}
use Rattle.fws_pf.specs.Values.{is_any_mark}
use Rattle.fws_pf.specs.Macros.{is_name, meant, meant_from}
use Rattle.fws_pf.specs.Statements.{is_mark, joined, joined_with, read_statement, read_statements}
use Rattle.fws_pf.specs.StatementText.{fault, meant_taken, raw_taken, raws_taken, statement_ended, statement_read, statement_step, words_taken}
use Rattle.fws_pf_print.proofs.Basics.{if_true, if_false}
use Rattle.fws_pf_print.proofs.Drafts.{done, mark_off, read, setting, step, whole}
use Rattle.fws_pf_print.proofs.LineWords.{AreWords, arrow, bare, bare_at, bare_bytes, comment_apart, comment_read, inner, is_comment, is_inner, IsWord, line_back, more, none, quoted, quoted_at, word_at}
use Rattle.fws_pf_print.proofs.NamesRead.{unmarked}
use Rattle.fws_pf_print.proofs.RulesRead.{text_at}

-- Words

all_printed : (text : List ℕ) → list_all is_inner text ≡ true → list_all is_printed text ≡ true
all_printed [] h = refl
all_printed (c ∷ text) h =
    let parts = and_parts (is_inner c) (list_all is_inner text) h in
    and_from (is_printed c) (list_all is_printed text) (inner c parts.0).printed (all_printed text parts.1)

sound_at : (n : ℕ) (w : List ℕ) → IsWord w → is_sound (word_at n w) ≡ true
sound_at n w (bare h) = ap is_sound (bare_at n w h) ∙ all_printed w (bare_bytes w h)
sound_at n _ (quoted text h) = ap is_sound (quoted_at n text)
sound_at n _ arrow = refl

no_use : (n : ℕ) (w : List ℕ) → list_all is_inner w ≡ true → meant [] (plain_word n w) ≡ Ok (plain_word n w ∷ [])
no_use n [] h = refl
no_use n (c ∷ cs) h = if_false (nat_eq c 36) (meant_from [] n [] cs) (Ok (plain_word n (c ∷ cs) ∷ [])) (inner c (and_parts (is_inner c) (list_all is_inner cs) h).0).unused

meant_at : (n : ℕ) (w : List ℕ) → IsWord w → meant [] (word_at n w) ≡ Ok (word_at n w ∷ [])
meant_at n w (bare h) = (let e = bare_at n w h in ap (meant []) e ∙ no_use n w (bare_bytes w h) ∙ ap (λ (x : Word). let r : Result (List Word) Cause = Ok (x ∷ []) in r) (sym e))
meant_at n _ (quoted text h) = (let e = quoted_at n text in ap (meant []) e ∙ ap (λ (x : Word). let r : Result (List Word) Cause = Ok (x ∷ []) in r) (sym e))
meant_at n _ arrow = refl

not_equals : (n : ℕ) (w : List ℕ) → IsWord w → is_mark (word_at n w) (codes "=") ≡ false
not_equals n w (bare h) = ap (λ (x : Word). is_mark x (codes "=")) (bare_at n w h) ∙ mark_off (plain_word n w) (codes "=") (unmarked (plain_word n w) (bare_bytes w h)) refl
not_equals n _ (quoted text h) = ap (λ (x : Word). is_mark x (codes "=")) (quoted_at n text)
not_equals n _ arrow = refl

no_definition : (n : ℕ) (ws : List (List ℕ)) → AreWords ws → is_definition (map (word_at n) ws) ≡ false
no_definition n _ none = refl
no_definition n _ (more h none) = refl
no_definition n _ (more {word = w} h (more {word = v} k ks)) = and_right (is_sound (word_at n w) && is_name (word_at n w).text) (is_mark (word_at n v) (codes "=")) (not_equals n v k)

-- Tables

no_table : (x : Word) (xs : List Word) → bytes_eq x.text (codes "table") ≡ false → table_defined (x ∷ xs) ≡ None
no_table x [] h = refl
no_table x (a ∷ []) h = refl
no_table x (a ∷ b ∷ []) h = refl
no_table x (a ∷ b ∷ c ∷ xs) h = ap (λ t. cond (t && is_mark a (codes "<") && not (is_any_mark b) && is_mark c (codes ">")) (Some b.text) None) h

no_tables : (site : Site) (n : ℕ) (w : List ℕ) (ws : List (List ℕ)) → IsWord w → bytes_eq (word_at n w).text (codes "table") ≡ false → table_of site [] (map (word_at n) (w ∷ ws)) ≡ []
no_tables site n w ws is h =
    let x = word_at n w in
    let xs = map (word_at n) ws in
    let rest = readable [] xs in
    let front : readable [] (x ∷ xs) ≡ x ∷ rest = if_true (is_sound x) (with_meant (meant [] x) rest) [] (sound_at n w is) ∙ ap (λ r. with_meant r rest) (meant_at n w is) ∙ if_true (is_sound x) (x ∷ rest) [] (sound_at n w is) in
    ap (λ o. option_map_or (λ name. with_read (statement_read (unknowing site) [] [] (x ∷ xs)) (empty_table name) ∷ []) o []) (ap table_defined front ∙ no_table x rest h)

-- Statements

module _ (site : Site) (n : ℕ) (tags : List (List ℕ)) where
  then_same : (r : Result Statement Cause) → and_then r (words_taken (setting site n) tags []) ≡ r
  then_same (Ok s) = refl
  then_same (Err e) = refl

  raw_step : (w : List ℕ) (d : RuleDraft) → IsWord w → raw_taken (setting site n) [] tags (word_at n w) (statements.Rule d) ≡ and_then (step site n d w) (λ next. Ok (statements.Rule next))
  raw_step w d is =
      let x = word_at n w in
      let s = statements.Rule d in
      if_true (is_sound x) (meant_taken (setting site n) tags (meant [] x) s) (Err (fault s Syntax)) (sound_at n w is)
      ∙ ap (λ r. meant_taken (setting site n) tags r s) (meant_at n w is)
      ∙ ap (λ r. and_then r (words_taken (setting site n) tags [])) (if_true (is_sound x) (statement_step (setting site n) tags x s) (Err (fault s Syntax)) (sound_at n w is))
      ∙ then_same (statement_step (setting site n) tags x s)

  then_rule : {B : Type 0} (o : Result RuleDraft Cause) (f : Statement → Result B Cause) → and_then (and_then o (λ e. Ok (statements.Rule e))) f ≡ and_then o (λ e. f (statements.Rule e))
  then_rule (Ok e) f = refl
  then_rule (Err e) f = refl

  then_each : {A B : Type 0} (o : Result A Cause) (f g : A → Result B Cause) → ((x : A) → f x ≡ g x) → and_then o f ≡ and_then o g
  then_each (Ok x) f g h = h x
  then_each (Err e) f g h = refl

  then_then : {A B C : Type 0} (o : Result A Cause) (f : A → Result B Cause) (g : B → Result C Cause) → and_then (and_then o f) g ≡ and_then o (λ x. and_then (f x) g)
  then_then (Ok x) f g = refl
  then_then (Err e) f g = refl

  raws_read : (ws : List (List ℕ)) (d : RuleDraft) → AreWords ws → raws_taken (setting site n) [] tags (map (word_at n) ws) (statements.Rule d) ≡ and_then (read site n d ws) (λ e. Ok (statements.Rule e))
  raws_read _ d none = refl
  raws_read _ d (more {word = w} {words = ws} h hs) =
      let rest = raws_taken (setting site n) [] tags (map (word_at n) ws) in
      ap (λ o. and_then o rest) (raw_step w d h)
      ∙ then_rule (step site n d w) rest
      ∙ then_each (step site n d w) (λ e. rest (statements.Rule e)) (λ e. and_then (read site n e ws) (λ x. Ok (statements.Rule x))) (λ e. raws_read ws e hs)
      ∙ sym (then_then (step site n d w) (λ e. read site n e ws) (λ x. Ok (statements.Rule x)))

-- a statement whose first words begin a rule
pub statement_taken : (site : Site) (n : ℕ) (c e : PfConfig) (all ws : List (List ℕ)) (d : RuleDraft) → AreWords all → AreWords ws
    → raws_taken (setting site n) [] c.tags (map (word_at n) all) statements.Begun ≡ raws_taken (setting site n) [] c.tags (map (word_at n) ws) (statements.Rule d)
    → whole site n (text_at c) d ws ≡ Ok (text_at e) → words_step site [] (map (word_at n) all) (text_at c) ≡ Ok (text_at e)
statement_taken site n c e all ws d are rest begun h =
    let t = text_at c in
    let put : Statement → Result PfDraft Cause = λ s. statement_put site [] s t in
    if_false (is_definition (map (word_at n) all)) (definition_step (map (word_at n) all) t) _ (no_definition n all are)
    ∙ ap (λ o. and_then (and_then o statement_ended) put) (begun ∙ raws_read site n c.tags ws d rest)
    ∙ ap (λ o. and_then o put) (then_rule site n c.tags (read site n d ws) statement_ended)
    ∙ then_then site n c.tags (read site n d ws) (λ e. statement_ended (statements.Rule e)) put
    ∙ then_each site n c.tags (read site n d ws) (λ e. and_then (statement_ended (statements.Rule e)) put) (done site n t) (λ e. then_rule site n c.tags (rule_ended e) put)
    ∙ h

-- Lines

-- the words of a line, wherever it stands
abbrev pub IsRead : Site → List (List ℕ) → PfConfig → PfConfig → Type 0
IsRead site words c e = (m : ℕ) → words_step site [] (map (word_at m) words) (text_at c) ≡ Ok (text_at e)

-- the lines make the second configuration of the first
pub data AreTaken (site : Site) : PfConfig → List (List ℕ) → PfConfig → Type 0 where
  none_taken : {c : PfConfig} → AreTaken site c [] c
  comment_taken : {c e : PfConfig} {line : List ℕ} {lines : List (List ℕ)} → is_comment line ≡ true → AreTaken site c lines e → AreTaken site c (line ∷ lines) e
  next_taken : {c next e : PfConfig} {lines : List (List ℕ)} (word : List ℕ) (words : List (List ℕ)) → AreWords (word ∷ words) → ((m : ℕ) → bytes_eq (word_at m word).text (codes "table") ≡ false)
      → IsRead site (word ∷ words) c next → AreTaken site next lines e → AreTaken site c (spaced (word ∷ words) ∷ lines) e

pub taken_append : (site : Site) (c d e : PfConfig) (xs ys : List (List ℕ)) → AreTaken site c xs d → AreTaken site d ys e → AreTaken site c (xs ++ ys) e
taken_append site c d e xs ys none_taken k = k
taken_append site c d e xs ys (comment_taken {lines = lines} h later) k = comment_taken h (taken_append site c d e lines ys later k)
taken_append site c d e xs ys (next_taken {next = next} {lines = lines} word words are other h later) k = next_taken word words are other h (taken_append site next d e lines ys later k)

-- what such lines give
pub record AreLines (site : Site) (c : PfConfig) (lines : List (List ℕ)) (e : PfConfig) : Type 0 where
  pub single : list_all is_one_line lines ≡ true
  pub untabled : (n : ℕ) → tables_from site [] [] (read_statements (joined n lines)) ≡ []
  pub taken : (n : ℕ) → lines_read (line_step site []) (text_at c) (read_statements (joined n lines)) ≡ Ok (text_at e)

-- a line that isn't joined with the next one
apart : (n : ℕ) (line : List ℕ) (lines : List (List ℕ)) → before_mark 92 line ≡ None → read_statements (joined n (line ∷ lines)) ≡ read_statement n line ++ read_statements (joined (suc n) lines)
apart n line lines h = ap (λ o. read_statements (option_map_or (λ front. joined_with n front (joined (suc n) lines)) o ((n, line) ∷ joined (suc n) lines))) h

first_word : (w : List ℕ) (ws : List (List ℕ)) → AreWords (w ∷ ws) → IsWord w
first_word w ws (more h hs) = h

pub lines_taken : (site : Site) (c e : PfConfig) (lines : List (List ℕ)) → AreTaken site c lines e → AreLines site c lines e
lines_taken site c e _ none_taken = record { single = refl; untabled = λ n. refl; taken = λ n. refl }
lines_taken site c e _ (comment_taken {line = line} {lines = rest} h later) =
    let last = and_parts (begins_hash line && is_one_line line) (not (ends_in 92 line)) h in
    let first = and_parts (begins_hash line) (is_one_line line) last.0 in
    let others = lines_taken site c e rest later in
    let same : (n : ℕ) → read_statements (joined n (line ∷ rest)) ≡ read_statements (joined (suc n) rest) = λ n.
    apart n line rest (comment_apart line h) ∙ ap (λ (l : List Line). l ++ read_statements (joined (suc n) rest)) (comment_read n line first.0) in
    record {
      single = and_from (is_one_line line) (list_all is_one_line rest) first.1 others.single;
      untabled = λ n. ap (tables_from site [] []) (same n) ∙ others.untabled (suc n);
      taken = λ n. ap (lines_read (line_step site []) (text_at c)) (same n) ∙ others.taken (suc n);
    }
lines_taken site c e _ (next_taken {next = next} {lines = rest} word words are other h later) =
    let line = spaced (word ∷ words) in
    let is = line_back word words are in
    let others = lines_taken site next e rest later in
    let row : ℕ → Line = λ n. (let l : Line = record { number = n; indented = is_indented line; words = map (word_at n) (word ∷ words) } in l) in
    let same : (n : ℕ) → read_statements (joined n (line ∷ rest)) ≡ row n ∷ read_statements (joined (suc n) rest) = λ n.
    apart n line rest is.apart ∙ ap (λ (l : List Line). l ++ read_statements (joined (suc n) rest)) (is.read n) in
    record {
      single = and_from (is_one_line line) (list_all is_one_line rest) is.single others.single;
      untabled = λ n.
          ap (tables_from site [] []) (same n)
          ∙ if_false (is_definition (map (word_at n) (word ∷ words))) _ (tables_from site [] (table_of site [] (map (word_at n) (word ∷ words))) (read_statements (joined (suc n) rest))) (no_definition n (word ∷ words) are)
          ∙ ap (λ (ts : List Table). tables_from site [] ts (read_statements (joined (suc n) rest))) (no_tables site n word words (first_word word words are) (other n))
          ∙ others.untabled (suc n);
      taken = λ n.
          ap (lines_read (line_step site []) (text_at c)) (same n)
          ∙ ap (λ o. and_then (located n o) (λ s. lines_read (line_step site []) s (read_statements (joined (suc n) rest)))) (h n) ∙ others.taken (suc n);
    }
