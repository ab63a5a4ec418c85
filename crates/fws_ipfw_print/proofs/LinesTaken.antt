-- Lines of instances, rules and comments, taken one after the other.
use Rattle.std.proofs.Common.{◌≡◌, ℕ, suc, Bool, true, false, ◌&&◌, ◌||◌, not, nat_eq, nat_le, Ok, List, [], ◌∷◌, ◌++◌, map, length, refl, ap, sym, ◌∙◌}
use Rattle.std.proofs.lemmas.Bool.{and_from, and_parts, or_left, eqb-true, cond_both, not_from_false, false_from_ne_true, true≢false}
use Rattle.std.proofs.lemmas.List.Folds.{list_all-append}
use Rattle.std.specs.List.{list_all}
use Rattle.std.specs.Option.{option_map_or}
use Rattle.fws_num.specs.declared.comments.Comments.TheVariants.{Ipfw}
use Rattle.fws_num.specs.declared.lines.Line.{Line}
use Rattle.fws_num.specs.declared.word.Word.{Word}
use Rattle.fws_num.specs.Comments.{begins_hash, begins_slashes}
use Rattle.fws_num.specs.Lines.{is_indented, line_of, numbered, read_line}
use Rattle.fws_num.specs.Numbers.{lacks}
use Rattle.fws_num.specs.Words.{is_sound, plain_word, quoted_word, words_of}
use Rattle.fws_num.specs.Written.{ends_in, has_slashes, is_one_line, spaced}
use Rattle.fws_net.specs.declared.site.Site.{Site}
use Rattle.fws_net.specs.Reading.{and_then, lines_read, located}
use Rattle.fws_ipfw.specs.declared.draft.Defined.{Defined}
use Rattle.fws_ipfw.specs.declared.draft.IpfwDraft.{IpfwDraft}
use Rattle.fws_ipfw.specs.FileText.{behind_program, defined_behind, defined_from, line_step, with_defined, words_step}
use Rattle.fws_print.specs.Words.{behind_blanks}
use Rattle.fws_ipfw_print.specs.PrintedText.{name_word}
use Rattle.fws_ipfw_print.proofs.Basics.{all_weaker, if_true, never}
use Rattle.fws_ipfw_print.proofs.LineWords.{all_printed, is_inner, is_writable, line_back, spaced_from, word_at}
use Rattle.fws_ipfw_print.proofs.Tame.{lacks_by}

-- Words of a line

pub text_at : (n : ℕ) (text : List ℕ) → (word_at n text).text ≡ text
text_at n text = cond_both (has_slashes text) (quoted_word n text) (plain_word n text) (λ (w : Word). w.text ≡ text) (λ e. refl) (λ e. refl)

pub sound_at : (n : ℕ) (text : List ℕ) → is_writable text ≡ true → is_sound (word_at n text) ≡ true
sound_at n text h =
    cond_both (has_slashes text) (quoted_word n text) (plain_word n text) (λ (w : Word). is_sound w ≡ true) (λ e. refl) (λ e. all_printed text (and_parts (nat_le 1 (length text)) (list_all is_inner text) h).1)

-- Bytes of a line

abbrev is_text_byte : ℕ → Bool
is_text_byte c = is_inner c || (nat_eq c 32 || nat_eq c 34)

inner_text : (c : ℕ) → is_inner c ≡ true → is_text_byte c ≡ true
inner_text c h = or_left (is_inner c) (nat_eq c 32 || nat_eq c 34) h

name_bytes : (text : List ℕ) → is_writable text ≡ true → list_all is_text_byte (name_word text) ≡ true
name_bytes text h =
    let bytes = all_weaker is_inner is_text_byte inner_text text (and_parts (nat_le 1 (length text)) (list_all is_inner text) h).1 in
    cond_both (has_slashes text) (34 ∷ text ++ 34 ∷ []) text (λ (w : List ℕ). list_all is_text_byte w ≡ true)
    (λ e. list_all-append is_text_byte text (34 ∷ []) ∙ and_from (list_all is_text_byte text) (list_all is_text_byte (34 ∷ [])) bytes refl) (λ e. bytes)

blanks_bytes : (texts : List (List ℕ)) → list_all is_writable texts ≡ true → list_all is_text_byte (behind_blanks (map name_word texts)) ≡ true
blanks_bytes [] h = refl
blanks_bytes (text ∷ texts) h =
    let parts = and_parts (is_writable text) (list_all is_writable texts) h in
    let rest = behind_blanks (map name_word texts) in
    list_all-append is_text_byte (32 ∷ name_word text) rest
    ∙ and_from (list_all is_text_byte (name_word text)) (list_all is_text_byte rest) (name_bytes text parts.0) (blanks_bytes texts parts.1)

line_bytes : (text : List ℕ) (texts : List (List ℕ)) → list_all is_writable (text ∷ texts) ≡ true → list_all is_text_byte (spaced (map name_word (text ∷ texts))) ≡ true
line_bytes text texts h =
    let parts = and_parts (is_writable text) (list_all is_writable texts) h in
    let rest = behind_blanks (map name_word texts) in
    ap (list_all is_text_byte) (spaced_from (name_word text) (map name_word texts))
    ∙ list_all-append is_text_byte (name_word text) rest
    ∙ and_from (list_all is_text_byte (name_word text)) (list_all is_text_byte rest) (name_bytes text parts.0) (blanks_bytes texts parts.1)

no_end : (p : ℕ → Bool) (byte : ℕ) → p byte ≡ false → (text : List ℕ) → list_all p text ≡ true → ends_in byte text ≡ false
no_end p byte off [] h = refl
no_end p byte off (c ∷ []) h = false_from_ne_true (nat_eq c byte) (λ e. true≢false (sym (and_parts (p c) true h).0 ∙ ap p (eqb-true c byte e) ∙ off))
no_end p byte off (c ∷ d ∷ cs) h = no_end p byte off (d ∷ cs) (and_parts (p c) (list_all p (d ∷ cs)) h).1

one_line : (text : List ℕ) (texts : List (List ℕ)) → list_all is_writable (text ∷ texts) ≡ true → is_one_line (spaced (map name_word (text ∷ texts))) ≡ true
one_line text texts h =
    let line = spaced (map name_word (text ∷ texts)) in
    let bytes = line_bytes text texts h in
    and_from (lacks 10 line) (not (ends_in 13 line)) (lacks_by is_text_byte 10 refl line bytes) (not_from_false (ends_in 13 line) (no_end is_text_byte 13 refl line bytes))

-- Comments

-- a line of a comment
abbrev pub is_comment : List ℕ → Bool
is_comment line = begins_hash line && is_one_line line

comment_read : (n : ℕ) (line : List ℕ) → begins_hash line ≡ true → read_line Ipfw n line ≡ []
comment_read n [] h = never h
comment_read n (c ∷ cs) h = at (c ∷ cs) (or_left (nat_eq c 35) (begins_slashes (c ∷ cs)) h)
  where
    at : (line : List ℕ) → (nat_eq c 35 || begins_slashes (c ∷ cs)) ≡ true → read_line Ipfw n (c ∷ cs) ≡ []
    at line e = ap (λ (l : List ℕ). line_of n (is_indented (c ∷ cs)) (words_of n l)) (if_true (nat_eq c 35 || begins_slashes (c ∷ cs)) [] _ e)

-- Lines

-- the words of a line, wherever it stands
abbrev pub IsRead : Site → List Defined → List (List ℕ) → IpfwDraft → IpfwDraft → Type 0
IsRead site known texts d e = (m : ℕ) → words_step site known (map (word_at m) texts) d ≡ Ok e

abbrev pub Defines : Site → List (List ℕ) → List Defined → List Defined → Type 0
Defines site texts before after = (m : ℕ) → option_map_or (λ each. with_defined each before) (defined_behind site (behind_program (map (word_at m) texts))) before ≡ after

-- the lines make the second draft of the first, and the second list of instances
pub data AreTaken (site : Site) (known : List Defined) : List Defined → IpfwDraft → List (List ℕ) → List Defined → IpfwDraft → Type 0 where
  none_taken : {before : List Defined} {d : IpfwDraft} → AreTaken site known before d [] before d
  comment_taken : {before after : List Defined} {d e : IpfwDraft} {line : List ℕ} {lines : List (List ℕ)} → is_comment line ≡ true → AreTaken site known before d lines after e
      → AreTaken site known before d (line ∷ lines) after e
  next_taken : {before more after : List Defined} {d next e : IpfwDraft} {lines : List (List ℕ)} (text : List ℕ) (texts : List (List ℕ)) → list_all is_writable (text ∷ texts) ≡ true
      → Defines site (text ∷ texts) before more → IsRead site known (text ∷ texts) d next → AreTaken site known more next lines after e
      → AreTaken site known before d (spaced (map name_word (text ∷ texts)) ∷ lines) after e

pub taken_append : (site : Site) (known a b c : List Defined) (d e f : IpfwDraft) (xs ys : List (List ℕ)) → AreTaken site known a d xs b e → AreTaken site known b e ys c f → AreTaken site known a d (xs ++ ys) c f
taken_append site known a b c d e f xs ys none_taken k = k
taken_append site known a b c d e f xs ys (comment_taken {lines = lines} h more) k = comment_taken h (taken_append site known a b c d e f lines ys more k)
taken_append site known a b c d e f xs ys (next_taken {more = m} {next = next} {lines = lines} text texts line defines h more) k =
    next_taken text texts line defines h (taken_append site known m b c next e f lines ys more k)

-- what such lines give
pub record AreLines (site : Site) (known before : List Defined) (d : IpfwDraft) (lines : List (List ℕ)) (after : List Defined) (e : IpfwDraft) : Type 0 where
  pub single : list_all is_one_line lines ≡ true
  pub defined : (n : ℕ) → defined_from site before (numbered Ipfw n lines) ≡ after
  pub read : (n : ℕ) → lines_read (line_step site known) d (numbered Ipfw n lines) ≡ Ok e

pub lines_taken : (site : Site) (known before after : List Defined) (d e : IpfwDraft) (lines : List (List ℕ)) → AreTaken site known before d lines after e → AreLines site known before d lines after e
lines_taken site known before after d e lines none_taken = record { single = refl; defined = λ n. refl; read = λ n. refl }
lines_taken site known before after d e lines (comment_taken {line = line} {lines = rest} h more) =
    let parts = and_parts (begins_hash line) (is_one_line line) h in
    let others = lines_taken site known before after d e rest more in
    record {
      single = and_from (is_one_line line) (list_all is_one_line rest) parts.1 others.single;
      defined = λ n. ap (λ (l : List Line). defined_from site before (l ++ numbered Ipfw (suc n) rest)) (comment_read n line parts.0) ∙ others.defined (suc n);
      read = λ n. ap (λ (l : List Line). lines_read (line_step site known) d (l ++ numbered Ipfw (suc n) rest)) (comment_read n line parts.0) ∙ others.read (suc n);
    }
lines_taken site known before after d e lines (next_taken {more = m} {next = next} {lines = rest} text texts line defines h more) =
    let own = spaced (map name_word (text ∷ texts)) in
    let others = lines_taken site known m after next e rest more in
    record {
      single = and_from (is_one_line own) (list_all is_one_line rest) (one_line text texts line) others.single;
      defined = λ n.
          ap (λ (l : List Line). defined_from site before (l ++ numbered Ipfw (suc n) rest)) (line_back n text texts line)
          ∙ ap (λ (k : List Defined). defined_from site k (numbered Ipfw (suc n) rest)) (defines n) ∙ others.defined (suc n);
      read = λ n.
          ap (λ (l : List Line). lines_read (line_step site known) d (l ++ numbered Ipfw (suc n) rest)) (line_back n text texts line)
          ∙ ap (λ o. and_then (located n o) (λ s. lines_read (line_step site known) s (numbered Ipfw (suc n) rest))) (h n) ∙ others.read (suc n);
    }
