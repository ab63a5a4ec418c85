-- Lines of plain words are read as these words, and make a text's draft of another one, line by line.
use Rattle.std.proofs.Common.{◌≡◌, ℕ, suc, ◌≤◌, Bool, true, false, ◌&&◌, not, nat_eq, nat_le, Ok, List, [], ◌∷◌, ◌++◌, map, length, refl, ap, sym, ◌∙◌, append-nil, arith}
use Rattle.std.proofs.lemmas.Bool.{and_from, and_parts, leb-true, le-leb, or_from, ne_eqb, eqb-true, not_from_false, false_from_ne_true, true≢false}
use Rattle.std.proofs.lemmas.List.Folds.{list_all-append}
use Rattle.std.specs.List.{list_all}
use Rattle.std.specs.Option.{option_map_or}
use Rattle.fws_num.specs.declared.comments.Comments.TheVariants.{Ios as IosComments}
use Rattle.fws_num.specs.declared.lines.Line.{Line}
use Rattle.fws_num.specs.declared.word.Word.{Word}
use Rattle.fws_num.specs.Comments.{is_exclamation}
use Rattle.fws_num.specs.Lines.{is_indented, line_of, numbered, read_line}
use Rattle.fws_num.specs.Numbers.{lacks}
use Rattle.fws_num.specs.Words.{is_blank, is_printed, plain_word, words_of}
use Rattle.fws_num.specs.Written.{ends_in, is_one_line, is_plain, is_plain_byte, spaced}
use Rattle.fws_net.specs.declared.site.Site.{Site}
use Rattle.fws_net.specs.Reading.{and_then, lines_read, located}
use Rattle.fws_ios.specs.declared.draft.IosDraft.{IosDraft}
use Rattle.fws_ios.specs.declared.draft.Pool.{Pool}
use Rattle.fws_ios.specs.FileText.{defined_by, defined_from, line_step, with_defined}
use Rattle.fws_print.specs.Words.{behind_blanks}
use Rattle.fws_ios_print.specs.PrintedText.{inner_line}
use Rattle.fws_ios_print.proofs.Basics.{all_weaker, if_false, if_true, never}
use Rattle.fws_ios_print.proofs.Laws.{Laws}

-- Bytes

-- a byte that ends no line
abbrev is_line_byte : ℕ → Bool
is_line_byte c = nat_le 32 c

plain_line : (c : ℕ) → is_plain_byte c ≡ true → is_line_byte c ≡ true
plain_line c h =
    let low = leb-true 33 c (and_parts (nat_le 33 c) (nat_le c 126) (and_parts (is_printed c) (not (nat_eq c 34)) h).0).0 in
    let from : 32 ≤ c = omega arith in
    le-leb 32 c from

-- a text lacks a byte for which a test fails that holds of all its bytes
lacks_by : (p : ℕ → Bool) (byte : ℕ) → p byte ≡ false → (text : List ℕ) → list_all p text ≡ true → lacks byte text ≡ true
lacks_by p byte off [] h = refl
lacks_by p byte off (c ∷ text) h =
    let parts = and_parts (p c) (list_all p text) h in
    and_from (not (nat_eq c byte)) (lacks byte text)
    (not_from_false (nat_eq c byte) (false_from_ne_true (nat_eq c byte) (λ e. true≢false (sym parts.0 ∙ ap p (eqb-true c byte e) ∙ off))))
    (lacks_by p byte off text parts.1)

no_end : (p : ℕ → Bool) (byte : ℕ) → p byte ≡ false → (text : List ℕ) → list_all p text ≡ true → ends_in byte text ≡ false
no_end p byte off [] h = refl
no_end p byte off (c ∷ []) h = false_from_ne_true (nat_eq c byte) (λ e. true≢false (sym (and_parts (p c) true h).0 ∙ ap p (eqb-true c byte e) ∙ off))
no_end p byte off (c ∷ d ∷ cs) h = no_end p byte off (d ∷ cs) (and_parts (p c) (list_all p (d ∷ cs)) h).1

one_line : (text : List ℕ) → list_all is_line_byte text ≡ true → is_one_line text ≡ true
one_line text h =
    and_from (lacks 10 text) (not (ends_in 13 text)) (lacks_by is_line_byte 10 refl text h) (not_from_false (ends_in 13 text) (no_end is_line_byte 13 refl text h))

-- Words

pub spaced_from : (word : List ℕ) (words : List (List ℕ)) → spaced (word ∷ words) ≡ word ++ behind_blanks words
spaced_from word [] = sym (append-nil word)
spaced_from word (next ∷ words) = ap (λ text. word ++ 32 ∷ text) (spaced_from next words)

word_bytes : (word : List ℕ) → is_plain word ≡ true → list_all is_line_byte word ≡ true
word_bytes word h = all_weaker is_plain_byte is_line_byte plain_line word (and_parts (nat_le 1 (length word)) (list_all is_plain_byte word) h).1

blanks_bytes : (words : List (List ℕ)) → list_all is_plain words ≡ true → list_all is_line_byte (behind_blanks words) ≡ true
blanks_bytes [] h = refl
blanks_bytes (w ∷ ws) h =
    let parts = and_parts (is_plain w) (list_all is_plain ws) h in
    list_all-append is_line_byte (32 ∷ w) (behind_blanks ws)
    ∙ and_from (list_all is_line_byte w) (list_all is_line_byte (behind_blanks ws)) (word_bytes w parts.0) (blanks_bytes ws parts.1)

spaced_bytes : (w : List ℕ) (ws : List (List ℕ)) → list_all is_plain (w ∷ ws) ≡ true → list_all is_line_byte (spaced (w ∷ ws)) ≡ true
spaced_bytes w ws h =
    let parts = and_parts (is_plain w) (list_all is_plain ws) h in
    ap (list_all is_line_byte) (spaced_from w ws) ∙ list_all-append is_line_byte w (behind_blanks ws)
    ∙ and_from (list_all is_line_byte w) (list_all is_line_byte (behind_blanks ws)) (word_bytes w parts.0) (blanks_bytes ws parts.1)

pub words_append : (xs ys : List (List ℕ)) → list_all is_plain xs ≡ true → list_all is_plain ys ≡ true → list_all is_plain (xs ++ ys) ≡ true
words_append xs ys h k = list_all-append is_plain xs ys ∙ and_from (list_all is_plain xs) (list_all is_plain ys) h k

pub words_more : (w : List ℕ) (ws : List (List ℕ)) → is_plain w ≡ true → list_all is_plain ws ≡ true → list_all is_plain (w ∷ ws) ≡ true
words_more w ws h k = and_from (is_plain w) (list_all is_plain ws) h k

pub plain_sound : (word : List ℕ) → is_plain word ≡ true → list_all is_printed word ≡ true
plain_sound word h =
    all_weaker is_plain_byte is_printed (λ c k. (and_parts (is_printed c) (not (nat_eq c 34)) k).0) word (and_parts (nat_le 1 (length word)) (list_all is_plain_byte word) h).1

-- Lines

-- a line as it is read
abbrev pub row : ℕ → Bool → List (List ℕ) → Line
row n indented words = record { number = n; indented = indented; words = map (plain_word n) words }

-- a line as it is written
abbrev pub written : Bool → List (List ℕ) → List ℕ
written true words = inner_line words
written false words = spaced words

-- what is known of a written line
record IsWritten (indented : Bool) (words : List (List ℕ)) : Type 0 where
  single : is_one_line (written indented words) ≡ true
  read : (n : ℕ) → read_line IosComments n (written indented words) ≡ row n indented words ∷ []

solid : (c : ℕ) → is_plain_byte c ≡ true → is_blank c ≡ false
solid c h =
    let low = leb-true 33 c (and_parts (nat_le 33 c) (nat_le c 126) (and_parts (is_printed c) (not (nat_eq c 34)) h).0).0 in
    or_from (nat_eq c 32) (nat_eq c 9) (ne_eqb c 32 (λ e. omega arith)) (ne_eqb c 9 (λ e. omega arith))

-- a line that begins with a byte that is neither blank nor the mark of a comment
top_read : (n : ℕ) (line : List ℕ) (c : ℕ) (cs : List ℕ) (w : Word) (ws : List Word) → line ≡ c ∷ cs → is_blank c ≡ false → nat_eq c 33 ≡ false → words_of n line ≡ w ∷ ws
    → read_line IosComments n line ≡ record { number = n; indented = false; words = w ∷ ws } ∷ []
top_read n line c cs w ws e blank mark words =
    let off : is_exclamation line ≡ false = ap is_exclamation e ∙ mark in
    ap (λ text. line_of n (is_indented line) (words_of n text)) (if_false (is_exclamation line) [] line off)
    ∙ ap (λ ws. line_of n (is_indented line) ws) words
    ∙ ap (λ b. line_of n b (w ∷ ws)) (ap is_indented e ∙ blank)

line_written : Laws → (indented : Bool) (word : List ℕ) (words : List (List ℕ)) → list_all is_plain (word ∷ words) ≡ true → is_exclamation word ≡ false → IsWritten indented (word ∷ words)
line_written laws true word words h mark = record {
  single = one_line (32 ∷ spaced (word ∷ words)) (spaced_bytes word words h);
  read = λ n. ap (λ ws. line_of n true ws) (laws.words n (word ∷ words) h);
}
line_written laws false [] words h mark = never h
line_written laws false (c ∷ cs) words h mark =
    let parts = and_parts (is_plain (c ∷ cs)) (list_all is_plain words) h in
    let bytes = (and_parts (nat_le 1 (length (c ∷ cs))) (list_all is_plain_byte (c ∷ cs)) parts.0).1 in
    let first = (and_parts (is_plain_byte c) (list_all is_plain_byte cs) bytes).0 in
    record {
      single = one_line (spaced ((c ∷ cs) ∷ words)) (spaced_bytes (c ∷ cs) words h);
      read = λ n. top_read n (spaced ((c ∷ cs) ∷ words)) c (cs ++ behind_blanks words) (plain_word n (c ∷ cs)) (map (plain_word n) words) (spaced_from (c ∷ cs) words) (solid c first) mark
          (laws.words n ((c ∷ cs) ∷ words) h);
    }

-- Lines one after the other

-- a line with a comment alone
abbrev pub is_comment : List ℕ → Bool
is_comment line = is_exclamation line && is_one_line line

-- the pools that are known behind a line
abbrev pub pools_behind : Line → List Pool → List Pool
pools_behind line known = option_map_or (λ pool. with_defined pool known) (defined_by line) known

-- a line of these words, wherever it stands: it makes the second draft of the first, and adds to the pools
abbrev pub IsStep : Site → List Pool → Bool → List (List ℕ) → List Pool → IosDraft → List Pool → IosDraft → Type 0
IsStep site defined indented words p d q e =
    (n : ℕ) → (line_step site defined d (row n indented words) ≡ Ok e) × (pools_behind (row n indented words) p ≡ q)

-- the lines make the second draft of the first, and the second pools
pub data AreTaken (site : Site) (defined : List Pool) : List Pool → IosDraft → List (List ℕ) → List Pool → IosDraft → Type 0 where
  none_taken : {p : List Pool} {d : IosDraft} → AreTaken site defined p d [] p d
  comment_taken : {p q : List Pool} {d e : IosDraft} {line : List ℕ} {lines : List (List ℕ)} → is_comment line ≡ true → AreTaken site defined p d lines q e → AreTaken site defined p d (line ∷ lines) q e
  next_taken : {p r q : List Pool} {d next e : IosDraft} {lines : List (List ℕ)} (indented : Bool) (word : List ℕ) (words : List (List ℕ)) → list_all is_plain (word ∷ words) ≡ true
      → is_exclamation word ≡ false → IsStep site defined indented (word ∷ words) p d r next → AreTaken site defined r next lines q e
      → AreTaken site defined p d (written indented (word ∷ words) ∷ lines) q e

pub taken_append : (site : Site) (defined p q r : List Pool) (c d e : IosDraft) (xs ys : List (List ℕ)) → AreTaken site defined p c xs q d → AreTaken site defined q d ys r e
    → AreTaken site defined p c (xs ++ ys) r e
taken_append site defined p q r c d e xs ys none_taken k = k
taken_append site defined p q r c d e xs ys (comment_taken {lines = lines} h later) k = comment_taken h (taken_append site defined p q r c d e lines ys later k)
taken_append site defined p q r c d e xs ys (next_taken {r = s} {next = next} {lines = lines} b word words plain mark h later) k =
    next_taken b word words plain mark h (taken_append site defined s q r next d e lines ys later k)

-- what such lines give
pub record AreLines (site : Site) (defined p : List Pool) (d : IosDraft) (lines : List (List ℕ)) (q : List Pool) (e : IosDraft) : Type 0 where
  pub single : list_all is_one_line lines ≡ true
  pub pools : (n : ℕ) → defined_from p (numbered IosComments n lines) ≡ q
  pub taken : (n : ℕ) → lines_read (line_step site defined) d (numbered IosComments n lines) ≡ Ok e

comment_read : (n : ℕ) (line : List ℕ) → is_exclamation line ≡ true → read_line IosComments n line ≡ []
comment_read n line h = ap (λ text. line_of n (is_indented line) (words_of n text)) (if_true (is_exclamation line) [] line h)

pub lines_taken : Laws → (site : Site) (defined p q : List Pool) (d e : IosDraft) (lines : List (List ℕ)) → AreTaken site defined p d lines q e → AreLines site defined p d lines q e
lines_taken laws site defined p q d e _ none_taken = record { single = refl; pools = λ n. refl; taken = λ n. refl }
lines_taken laws site defined p q d e _ (comment_taken {line = line} {lines = rest} h later) =
    let parts = and_parts (is_exclamation line) (is_one_line line) h in
    let others = lines_taken laws site defined p q d e rest later in
    let same : (n : ℕ) → numbered IosComments n (line ∷ rest) ≡ numbered IosComments (suc n) rest = λ n.
    ap (λ (l : List Line). l ++ numbered IosComments (suc n) rest) (comment_read n line parts.0) in
    record {
      single = and_from (is_one_line line) (list_all is_one_line rest) parts.1 others.single;
      pools = λ n. ap (defined_from p) (same n) ∙ others.pools (suc n);
      taken = λ n. ap (lines_read (line_step site defined) d) (same n) ∙ others.taken (suc n);
    }
lines_taken laws site defined p q d e _ (next_taken {r = r} {next = next} {lines = rest} b word words plain mark h later) =
    let line = written b (word ∷ words) in
    let is = line_written laws b word words plain mark in
    let others = lines_taken laws site defined r q next e rest later in
    let same : (n : ℕ) → numbered IosComments n (line ∷ rest) ≡ row n b (word ∷ words) ∷ numbered IosComments (suc n) rest = λ n.
    ap (λ (l : List Line). l ++ numbered IosComments (suc n) rest) (is.read n) in
    record {
      single = and_from (is_one_line line) (list_all is_one_line rest) is.single others.single;
      pools = λ n. ap (defined_from p) (same n) ∙ ap (λ (k : List Pool). defined_from k (numbered IosComments (suc n) rest)) (h n).1 ∙ others.pools (suc n);
      taken = λ n.
          ap (lines_read (line_step site defined) d) (same n)
          ∙ ap (λ o. and_then (located n o) (λ s. lines_read (line_step site defined) s (numbered IosComments (suc n) rest))) (h n).0 ∙ others.taken (suc n);
    }
