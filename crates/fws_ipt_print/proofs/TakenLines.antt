-- Lines of words that are taken one after the other, and read out of a text behind comments.
use Rattle.std.proofs.Common.{◌≡◌, ℕ, suc, ◌≤◌, Bool, true, false, cond, ◌&&◌, ◌||◌, not, nat_eq, nat_le, Ok, List, [], ◌∷◌, ◌++◌, map, length, refl, ap, sym, ◌∙◌, append_assoc, arith}
use Rattle.std.proofs.lemmas.Bool.{and_from, and_parts, or_from, or_left, leb-true, eqb-true, ne_eqb, not-true, not_from_false, false_from_ne_true, true≢false}
use Rattle.std.proofs.lemmas.List.Folds.{list_all-append}
use Rattle.std.specs.List.{list_all}
use Rattle.fws_num.specs.declared.comments.Comments.TheVariants.{HashLine}
use Rattle.fws_num.specs.declared.lines.Line.{Line}
use Rattle.fws_num.specs.Comments.{begins_hash, is_hash_comment}
use Rattle.fws_num.specs.Lines.{line_of, numbered, read_line}
use Rattle.fws_num.specs.Numbers.{lacks}
use Rattle.fws_num.specs.Words.{is_blank, is_printed, plain_word, words_of}
use Rattle.fws_num.specs.Written.{ended, ends_in, first_word, is_one_line, is_plain_byte, is_plain, line_bytes, spaced}
use Rattle.fws_net.specs.declared.site.Site.{Site}
use Rattle.fws_net.specs.Reading.{and_then, lines_read, located}
use Rattle.fws_net.specs.SiteSpelling.{written}
use Rattle.fws_ipt.specs.declared.draft.IptDraft.{IptDraft}
use Rattle.fws_ipt.specs.FileText.{line_step, words_step}
use Rattle.fws_print.specs.Words.{behind_blanks}
use Rattle.fws_ipt_print.proofs.Basics.{all_weaker, never}
use Rattle.fws_ipt_print.proofs.Laws.{Laws}
use Rattle.fws_ipt_print.proofs.LinesPut.{spaced_from}
use Rattle.fws_ipt_print.proofs.Plain.{lacks_by}

-- Lines

-- a line of plain words that is no comment
abbrev pub is_line : List (List ℕ) → Bool
is_line words = nat_le 1 (length words) && list_all is_plain words && not (begins_hash (first_word words))

-- the words of a line, wherever it stands
abbrev pub IsTaken : Site → List (List ℕ) → IptDraft → IptDraft → Type 0
IsTaken site ws d e = (n : ℕ) → words_step site (map (plain_word n) ws) d ≡ Ok e

-- the lines make the second draft of the first
pub data AreTaken (site : Site) : IptDraft → List (List (List ℕ)) → IptDraft → Type 0 where
  none_taken : {d : IptDraft} → AreTaken site d [] d
  next_taken : {d e f : IptDraft} {ws : List (List ℕ)} {lines : List (List (List ℕ))} → is_line ws ≡ true → IsTaken site ws d e → AreTaken site e lines f → AreTaken site d (ws ∷ lines) f

pub taken_append : (site : Site) (d e f : IptDraft) (xs ys : List (List (List ℕ))) → AreTaken site d xs e → AreTaken site e ys f → AreTaken site d (xs ++ ys) f
taken_append site d e f xs ys none_taken k = k
taken_append site d e f xs ys (next_taken {e = next} {lines = lines} line h more) k = next_taken line h (taken_append site next e f lines ys more k)

-- the bytes of lines
abbrev pub bytes_of : List (List (List ℕ)) → List (List ℕ)
bytes_of lines = map line_bytes (map written lines)

-- Bytes

abbrev is_text_byte : ℕ → Bool
is_text_byte c = is_plain_byte c || nat_eq c 32

plain_text : (c : ℕ) → is_plain_byte c ≡ true → is_text_byte c ≡ true
plain_text c h = or_left (is_plain_byte c) (nat_eq c 32) h

blanks_text : (words : List (List ℕ)) → list_all is_plain words ≡ true → list_all is_text_byte (behind_blanks words) ≡ true
blanks_text [] h = refl
blanks_text (word ∷ words) h =
    let parts = and_parts (is_plain word) (list_all is_plain words) h in
    let bytes = (and_parts (nat_le 1 (length word)) (list_all is_plain_byte word) parts.0).1 in
    list_all-append is_text_byte (32 ∷ word) (behind_blanks words)
    ∙ and_from (list_all is_text_byte (32 ∷ word)) (list_all is_text_byte (behind_blanks words)) (all_weaker is_plain_byte is_text_byte plain_text word bytes) (blanks_text words parts.1)

no_end : (p : ℕ → Bool) (byte : ℕ) → p byte ≡ false → (text : List ℕ) → list_all p text ≡ true → ends_in byte text ≡ false
no_end p byte off [] h = refl
no_end p byte off (c ∷ []) h =
    false_from_ne_true (nat_eq c byte) (λ e. true≢false (sym (and_parts (p c) true h).0 ∙ ap p (eqb-true c byte e) ∙ off))
no_end p byte off (c ∷ d ∷ cs) h = no_end p byte off (d ∷ cs) (and_parts (p c) (list_all p (d ∷ cs)) h).1

line_text : (words : List (List ℕ)) → list_all is_plain words ≡ true → list_all is_text_byte (spaced words) ≡ true
line_text [] h = refl
line_text (word ∷ words) h =
    let parts = and_parts (is_plain word) (list_all is_plain words) h in
    let bytes = (and_parts (nat_le 1 (length word)) (list_all is_plain_byte word) parts.0).1 in
    ap (list_all is_text_byte) (spaced_from word words)
    ∙ list_all-append is_text_byte word (behind_blanks words)
    ∙ and_from (list_all is_text_byte word) (list_all is_text_byte (behind_blanks words)) (all_weaker is_plain_byte is_text_byte plain_text word bytes) (blanks_text words parts.1)

one_line : (words : List (List ℕ)) → list_all is_plain words ≡ true → is_one_line (spaced words) ≡ true
one_line words h =
    let bytes = line_text words h in
    and_from (lacks 10 (spaced words)) (not (ends_in 13 (spaced words))) (lacks_by is_text_byte 10 refl (spaced words) bytes)
    (not_from_false (ends_in 13 (spaced words)) (no_end is_text_byte 13 refl (spaced words) bytes))

pub lines_single : (site : Site) (d e : IptDraft) (lines : List (List (List ℕ))) → AreTaken site d lines e → list_all is_one_line (bytes_of lines) ≡ true
lines_single site d e lines none_taken = refl
lines_single site d e lines (next_taken {e = next} {ws = ws} {lines = rest} line h more) =
    let parts = and_parts (nat_le 1 (length ws) && list_all is_plain ws) (not (begins_hash (first_word ws))) line in
    and_from (is_one_line (spaced ws)) (list_all is_one_line (bytes_of rest)) (one_line ws (and_parts (nat_le 1 (length ws)) (list_all is_plain ws) parts.0).1)
    (lines_single site next e rest more)

-- Lines as they are read

-- the line with these words
abbrev line_at : ℕ → List (List ℕ) → Line
line_at n words = record { number = n; indented = false; words = map (plain_word n) words }

byte_clear : (c : ℕ) → is_plain_byte c ≡ true → is_blank c ≡ false
byte_clear c h =
    let printed = and_parts (is_printed c) (not (nat_eq c 34)) h in
    let low : 33 ≤ c = leb-true 33 c (and_parts (nat_le 33 c) (nat_le c 126) printed.0).0 in
    or_from (nat_eq c 32) (nat_eq c 9) (ne_eqb c 32 (λ e. omega arith)) (ne_eqb c 9 (λ e. omega arith))

-- a text that begins with such a byte is read whole
text_read : (n : ℕ) (c : ℕ) (cs : List ℕ) (w : List ℕ) (ws : List (List ℕ)) → is_blank c ≡ false → nat_eq c 35 ≡ false
    → words_of n (c ∷ cs) ≡ map (plain_word n) (w ∷ ws) → read_line HashLine n (c ∷ cs) ≡ line_at n (w ∷ ws) ∷ []
text_read n c cs w ws solid other words =
    ap (λ b. line_of n b (words_of n (cond (cond b (is_hash_comment cs) (nat_eq c 35)) [] (c ∷ cs)))) solid
    ∙ ap (λ b. line_of n false (words_of n (cond b [] (c ∷ cs)))) other
    ∙ ap (line_of n false) words

module _ (laws : Laws) where
  line_back : (n : ℕ) (words : List (List ℕ)) → is_line words ≡ true → read_line HashLine n (spaced words) ≡ line_at n words ∷ []
  line_back n [] h = never h
  line_back n ([] ∷ ws) h =
      let parts = and_parts (nat_le 1 (length ([] ∷ ws)) && list_all is_plain ([] ∷ ws)) true h in
      let plain = (and_parts (nat_le 1 (length ([] ∷ ws))) (list_all is_plain ([] ∷ ws)) parts.0).1 in
      never (and_parts false (list_all is_plain ws) plain).0
  line_back n ((c ∷ cs) ∷ ws) h =
      let parts = and_parts (nat_le 1 (length ((c ∷ cs) ∷ ws)) && list_all is_plain ((c ∷ cs) ∷ ws)) (not (nat_eq c 35)) h in
      let plain = (and_parts (nat_le 1 (length ((c ∷ cs) ∷ ws))) (list_all is_plain ((c ∷ cs) ∷ ws)) parts.0).1 in
      let first = (and_parts (is_plain (c ∷ cs)) (list_all is_plain ws) plain).0 in
      let bytes = (and_parts (nat_le 1 (length (c ∷ cs))) (list_all is_plain_byte (c ∷ cs)) first).1 in
      let solid = byte_clear c (and_parts (is_plain_byte c) (list_all is_plain_byte cs) bytes).0 in
      let from = spaced_from (c ∷ cs) ws in
      ap (read_line HashLine n) from
      ∙ text_read n c (cs ++ behind_blanks ws) (c ∷ cs) ws solid (not-true (nat_eq c 35) parts.1) (sym (ap (words_of n) from) ∙ laws.words n ((c ∷ cs) ∷ ws) plain)

  pub lines_back : (site : Site) (d e : IptDraft) (lines : List (List (List ℕ))) → AreTaken site d lines e → (n : ℕ)
      → lines_read (line_step site) d (numbered HashLine n (bytes_of lines)) ≡ Ok e
  lines_back site d e lines none_taken n = refl
  lines_back site d e lines (next_taken {e = next} {ws = ws} {lines = rest} line h more) n =
      ap (λ front. lines_read (line_step site) d (front ++ numbered HashLine (suc n) (bytes_of rest))) (line_back n ws line)
      ∙ ap (λ o. and_then (located n o) (λ s. lines_read (line_step site) s (numbered HashLine (suc n) (bytes_of rest)))) (h n)
      ∙ lines_back site next e rest more (suc n)

-- lines behind lines
pub ended-append : (xs ys : List (List ℕ)) → ended (xs ++ ys) ≡ ended xs ++ ended ys
ended-append [] ys = refl
ended-append (x ∷ xs) ys = ap (λ text. x ++ 10 ∷ text) (ended-append xs ys) ∙ sym (append_assoc x (10 ∷ ended xs) (ended ys))
