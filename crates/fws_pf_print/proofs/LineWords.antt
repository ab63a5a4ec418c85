-- A line of words is read as these words, those in quotes without them.
use Rattle.std.proofs.Common.{◌≡◌, ℕ, ◌≤◌, Bool, true, false, cond, ◌&&◌, ◌||◌, not, nat_eq, nat_le, Some, None, option_map, List, [], ◌∷◌, ◌++◌, map, length, codes, refl, ap, sym, ◌∙◌, append_assoc, append-nil, arith}
use Rattle.std.proofs.lemmas.Bool.{and_from, and_parts, and_right, or_from, leb-true, le-leb, ne_eqb, eqb-true, eqb-false, not-true, not_from_false, false_from_ne_true, true≢false}
use Rattle.std.proofs.lemmas.List.Folds.{list_all-append}
use Rattle.std.proofs.lemmas.Slice.Eq.{bytes_eq-Decides}
use Rattle.std.specs.List.{list_all, list_any, range_with_len}
use Rattle.std.specs.Str.{bytes_eq}
use Rattle.fws_num.specs.declared.comments.Comments.TheVariants.{Pf}
use Rattle.fws_num.specs.declared.word.Word.{Word}
use Rattle.fws_num.specs.Comments.{ahead_from, begins_hash, is_outside, is_punctuation, mode_behind, uncommented}
use Rattle.fws_num.specs.Lines.{is_indented, line_of}
use Rattle.fws_num.specs.Numbers.{lacks}
use Rattle.fws_num.specs.Words.{is_blank, is_printed, plain_word, quoted_word}
use Rattle.fws_num.specs.Written.{ends_in, is_one_line, spaced}
use Rattle.fws_rules.specs.Interfaces.{before_mark}
use Rattle.fws_pf.specs.declared.statement.Mode.TheVariants.{Between, Plain, Quoted, Escaped, Second}
use Rattle.fws_pf.specs.Statements.{begins_pair, pairs, read_statement, words_from, words_of}
use Rattle.fws_print.specs.Words.{behind_blanks}
use Rattle.fws_pf_print.proofs.Basics.{all_weaker, at_number, if_true, if_false, implied, never}

-- Bytes

-- a byte of a word: printed, and none of those with a meaning of their own
abbrev pub is_inner : ℕ → Bool
is_inner c = is_printed c && not (is_punctuation c) && not (nat_eq c 34) && not (nat_eq c 35) && not (nat_eq c 36) && not (nat_eq c 92)

-- what is known of such a byte
pub record IsInner (c : ℕ) : Type 0 where
  pub printed : is_printed c ≡ true
  pub solid : is_blank c ≡ false
  pub inside : is_punctuation c ≡ false
  pub unquoted : nat_eq c 34 ≡ false
  pub unmarked : nat_eq c 35 ≡ false
  pub unused : nat_eq c 36 ≡ false
  pub unescaped : nat_eq c 92 ≡ false

pub inner : (c : ℕ) → is_inner c ≡ true → IsInner c
inner c h =
    let a = is_printed c in
    let b = not (is_punctuation c) in
    let d = not (nat_eq c 34) in
    let e = not (nat_eq c 35) in
    let f = not (nat_eq c 36) in
    let g = not (nat_eq c 92) in
    let p5 = and_parts (a && b && d && e && f) g h in
    let p4 = and_parts (a && b && d && e) f p5.0 in
    let p3 = and_parts (a && b && d) e p4.0 in
    let p2 = and_parts (a && b) d p3.0 in
    let p1 = and_parts a b p2.0 in
    let low = leb-true 33 c (and_parts (nat_le 33 c) (nat_le c 126) p1.0).0 in
    record {
      printed = p1.0;
      solid = or_from (nat_eq c 32) (nat_eq c 9) (ne_eqb c 32 (λ e. omega arith)) (ne_eqb c 9 (λ e. omega arith));
      inside = not-true (is_punctuation c) p1.1;
      unquoted = not-true (nat_eq c 34) p2.1;
      unmarked = not-true (nat_eq c 35) p3.1;
      unused = not-true (nat_eq c 36) p4.1;
      unescaped = not-true (nat_eq c 92) p5.1;
    }

-- a word that is written as it is
abbrev pub is_bare : List ℕ → Bool
is_bare word = nat_le 1 (length word) && list_all is_inner word

pub bare_bytes : (word : List ℕ) → is_bare word ≡ true → list_all is_inner word ≡ true
bare_bytes word h = (and_parts (nat_le 1 (length word)) (list_all is_inner word) h).1

-- Pairs of punctuation: none begins in a word

abbrev second : List ℕ → ℕ
second (a ∷ b ∷ cs) = b
second _ = 0

-- a byte that ends no pair
abbrev follows : ℕ → Bool
follows d = list_all (λ row. not (nat_eq d (second row))) pairs

no_row : (c d : ℕ) (rows : List (List ℕ)) → list_all (λ row. not (nat_eq d (second row))) rows ≡ true → list_any (bytes_eq (c ∷ d ∷ [])) rows ≡ false
no_row c d [] h = refl
no_row c d (row ∷ rows) h =
    let parts = and_parts (not (nat_eq d (second row))) (list_all (λ row. not (nat_eq d (second row))) rows) h in
    or_from (bytes_eq (c ∷ d ∷ []) row) (list_any (bytes_eq (c ∷ d ∷ [])) rows)
    (false_from_ne_true (bytes_eq (c ∷ d ∷ []) row)
    (λ e. eqb-false d (second row) (not-true (nat_eq d (second row)) parts.0) (ap second ((bytes_eq-Decides (c ∷ d ∷ []) row).0 e))))
    (no_row c d rows parts.1)

all_follow : list_all (λ d. not (is_inner d) || follows d) (range_with_len 33 94) ≡ true
all_follow = refl

inner_follows : (d : ℕ) → is_inner d ≡ true → follows d ≡ true
inner_follows d h =
    let range = and_parts (nat_le 33 d) (nat_le d 126) (inner d h).printed in
    let low : 33 ≤ d = leb-true 33 d range.0 in
    let high : d ≤ 126 = leb-true d 126 range.1 in
    implied (is_inner d) (follows d) h (at_number (λ d. not (is_inner d) || follows d) 33 94 d all_follow low (omega arith))

-- no byte of a word begins a pair with what stands behind it
pair_free : (c : ℕ) (cs : List ℕ) (ws : List (List ℕ)) → list_all is_inner cs ≡ true → begins_pair c (cs ++ behind_blanks ws) ≡ false
pair_free c [] [] h = refl
pair_free c [] (w ∷ ws) h = no_row c 32 pairs refl
pair_free c (d ∷ cs) ws h = no_row c d pairs (inner_follows d (and_parts (is_inner d) (list_all is_inner cs) h).0)

-- Words

-- a text without its last byte
abbrev without_last : List ℕ → List ℕ
without_last [] = []
without_last (c ∷ []) = []
without_last (c ∷ d ∷ cs) = c ∷ without_last (d ∷ cs)

-- what stands between the first and the last byte
abbrev within : List ℕ → List ℕ
within [] = []
within (c ∷ cs) = without_last cs

abbrev is_in_quotes : List ℕ → Bool
is_in_quotes [] = false
is_in_quotes (c ∷ cs) = nat_eq c 34

-- the word that is read of a written one
abbrev pub word_at : ℕ → List ℕ → Word
word_at n word = cond (is_in_quotes word) (quoted_word n (within word)) (plain_word n word)

-- the words that are written: bare ones, those in quotes, and the arrow
pub data IsWord : List ℕ → Type 0 where
  bare : {word : List ℕ} → is_bare word ≡ true → IsWord word
  quoted : (text : List ℕ) → list_all is_inner text ≡ true → IsWord (34 ∷ text ++ 34 ∷ [])
  arrow : IsWord (codes "->")

pub data AreWords : List (List ℕ) → Type 0 where
  none : AreWords []
  more : {word : List ℕ} {words : List (List ℕ)} → IsWord word → AreWords words → AreWords (word ∷ words)

pub words_append : (xs ys : List (List ℕ)) → AreWords xs → AreWords ys → AreWords (xs ++ ys)
words_append xs ys none k = k
words_append xs ys (more {words = rest} h hs) k = more h (words_append rest ys hs k)

pub bare_words : (words : List (List ℕ)) → list_all is_bare words ≡ true → AreWords words
bare_words [] h = none
bare_words (word ∷ words) h = (let parts = and_parts (is_bare word) (list_all is_bare words) h in more (bare parts.0) (bare_words words parts.1))

last_left : (text : List ℕ) → without_last (text ++ 34 ∷ []) ≡ text
last_left [] = refl
last_left (c ∷ []) = refl
last_left (c ∷ d ∷ cs) = ap (λ (t : List ℕ). c ∷ t) (last_left (d ∷ cs))

pub bare_at : (n : ℕ) (word : List ℕ) → is_bare word ≡ true → word_at n word ≡ plain_word n word
bare_at n [] h = never h
bare_at n (c ∷ cs) h =
    if_false (nat_eq c 34) (quoted_word n (without_last cs)) (plain_word n (c ∷ cs)) (inner c (and_parts (is_inner c) (list_all is_inner cs) (bare_bytes (c ∷ cs) h)).0).unquoted

pub quoted_at : (n : ℕ) (text : List ℕ) → word_at n (34 ∷ text ++ 34 ∷ []) ≡ quoted_word n text
quoted_at n text = ap (quoted_word n) (last_left text)

plain_taken : (n : ℕ) (text cs : List ℕ) (ws : List (List ℕ)) → list_all is_inner cs ≡ true
    → words_from n Plain text (cs ++ behind_blanks ws) ≡ plain_word n (text ++ cs) ∷ words_from n Between [] (behind_blanks ws)
plain_taken n text [] [] h = ap (λ (t : List ℕ). plain_word n t ∷ []) (sym (append-nil text))
plain_taken n text [] (w ∷ ws) h = ap (λ (t : List ℕ). plain_word n t ∷ words_from n Between [] (w ++ behind_blanks ws)) (sym (append-nil text))
plain_taken n text (c ∷ cs) ws h =
    let parts = and_parts (is_inner c) (list_all is_inner cs) h in
    let byte = inner c parts.0 in
    let others = cs ++ behind_blanks ws in
    if_false (is_blank c) (plain_word n text ∷ words_from n Between [] others) _ byte.solid
    ∙ if_false (begins_pair c others) (plain_word n text ∷ words_from n (Second c) [] others) _ (pair_free c cs ws parts.1)
    ∙ if_false (is_punctuation c) (plain_word n text ∷ plain_word n (c ∷ []) ∷ words_from n Between [] others) (words_from n Plain (text ++ c ∷ []) others) byte.inside
    ∙ plain_taken n (text ++ c ∷ []) cs ws parts.1
    ∙ ap (λ (t : List ℕ). plain_word n t ∷ words_from n Between [] (behind_blanks ws)) (append_assoc text (c ∷ []) cs)

quoted_taken : (n : ℕ) (text cs rest : List ℕ) → list_all is_inner cs ≡ true → words_from n Quoted text (cs ++ 34 ∷ rest) ≡ quoted_word n (text ++ cs) ∷ words_from n Between [] rest
quoted_taken n text [] rest h = ap (λ (t : List ℕ). quoted_word n t ∷ words_from n Between [] rest) (sym (append-nil text))
quoted_taken n text (c ∷ cs) rest h =
    let parts = and_parts (is_inner c) (list_all is_inner cs) h in
    let byte = inner c parts.0 in
    let others = cs ++ 34 ∷ rest in
    if_false (nat_eq c 34) (quoted_word n text ∷ words_from n Between [] others) _ byte.unquoted
    ∙ if_false (nat_eq c 92) (words_from n Escaped text others) (words_from n Quoted (text ++ c ∷ []) others) byte.unescaped
    ∙ quoted_taken n (text ++ c ∷ []) cs rest parts.1
    ∙ ap (λ (t : List ℕ). quoted_word n t ∷ words_from n Between [] rest) (append_assoc text (c ∷ []) cs)

bare_taken : (n : ℕ) (word : List ℕ) (ws : List (List ℕ)) → is_bare word ≡ true
    → words_from n Between [] (word ++ behind_blanks ws) ≡ plain_word n word ∷ words_from n Between [] (behind_blanks ws)
bare_taken n [] ws h = never h
bare_taken n (c ∷ cs) ws h =
    let parts = and_parts (is_inner c) (list_all is_inner cs) (bare_bytes (c ∷ cs) h) in
    let byte = inner c parts.0 in
    let others = cs ++ behind_blanks ws in
    if_false (is_blank c) (words_from n Between [] others) _ byte.solid
    ∙ if_false (nat_eq c 34) (words_from n Quoted [] others) _ byte.unquoted
    ∙ if_false (begins_pair c others) (words_from n (Second c) [] others) _ (pair_free c cs ws parts.1)
    ∙ if_false (is_punctuation c) (plain_word n (c ∷ []) ∷ words_from n Between [] others) (words_from n Plain (c ∷ []) others) byte.inside
    ∙ plain_taken n (c ∷ []) cs ws parts.1

word_taken : (n : ℕ) (word : List ℕ) (ws : List (List ℕ)) → IsWord word
    → words_from n Between [] (word ++ behind_blanks ws) ≡ word_at n word ∷ words_from n Between [] (behind_blanks ws)
word_taken n word ws (bare h) = bare_taken n word ws h ∙ ap (λ (w : Word). w ∷ words_from n Between [] (behind_blanks ws)) (sym (bare_at n word h))
word_taken n word ws (quoted text h) =
    ap (words_from n Quoted []) (append_assoc text (34 ∷ []) (behind_blanks ws))
    ∙ quoted_taken n [] text (behind_blanks ws) h
    ∙ ap (λ (w : Word). w ∷ words_from n Between [] (behind_blanks ws)) (sym (quoted_at n text))
word_taken n word ws arrow = refl

rest_taken : (n : ℕ) (words : List (List ℕ)) → AreWords words → words_from n Between [] (behind_blanks words) ≡ map (word_at n) words
rest_taken n words none = refl
rest_taken n words (more {word = w} {words = ws} h hs) = word_taken n w ws h ∙ ap (λ (l : List Word). word_at n w ∷ l) (rest_taken n ws hs)

pub spaced_from : (word : List ℕ) (words : List (List ℕ)) → spaced (word ∷ words) ≡ word ++ behind_blanks words
spaced_from word [] = sym (append-nil word)
spaced_from word (next ∷ words) = ap (λ text. word ++ 32 ∷ text) (spaced_from next words)

-- Bytes of a line

abbrev is_line_byte : ℕ → Bool
is_line_byte c = nat_le 32 c && not (nat_eq c 35) && not (nat_eq c 92)

inner_line : (c : ℕ) → is_inner c ≡ true → is_line_byte c ≡ true
inner_line c h =
    let byte = inner c h in
    let low = leb-true 33 c (and_parts (nat_le 33 c) (nat_le c 126) byte.printed).0 in
    let from : 32 ≤ c = omega arith in
    and_from (nat_le 32 c && not (nat_eq c 35)) (not (nat_eq c 92)) (and_from (nat_le 32 c) (not (nat_eq c 35)) (le-leb 32 c from) (not_from_false (nat_eq c 35) byte.unmarked)) (not_from_false (nat_eq c 92) byte.unescaped)

word_bytes : (word : List ℕ) → IsWord word → list_all is_line_byte word ≡ true
word_bytes word (bare h) = all_weaker is_inner is_line_byte inner_line word (bare_bytes word h)
word_bytes word (quoted text h) =
    list_all-append is_line_byte text (34 ∷ []) ∙ and_from (list_all is_line_byte text) (list_all is_line_byte (34 ∷ [])) (all_weaker is_inner is_line_byte inner_line text h) refl
word_bytes word arrow = refl

blanks_bytes : (words : List (List ℕ)) → AreWords words → list_all is_line_byte (behind_blanks words) ≡ true
blanks_bytes words none = refl
blanks_bytes words (more {word = w} {words = ws} h hs) =
    list_all-append is_line_byte (32 ∷ w) (behind_blanks ws) ∙ and_from (list_all is_line_byte w) (list_all is_line_byte (behind_blanks ws)) (word_bytes w h) (blanks_bytes ws hs)

-- a text lacks a byte for which a test fails that holds of all its bytes
pub lacks_by : (p : ℕ → Bool) (byte : ℕ) → p byte ≡ false → (text : List ℕ) → list_all p text ≡ true → lacks byte text ≡ true
lacks_by p byte off [] h = refl
lacks_by p byte off (c ∷ text) h =
    let parts = and_parts (p c) (list_all p text) h in
    and_from (not (nat_eq c byte)) (lacks byte text)
    (not_from_false (nat_eq c byte) (false_from_ne_true (nat_eq c byte) (λ e. true≢false (sym parts.0 ∙ ap p (eqb-true c byte e) ∙ off))))
    (lacks_by p byte off text parts.1)

no_end : (p : ℕ → Bool) (byte : ℕ) → p byte ≡ false → (text : List ℕ) → list_all p text ≡ true → ends_in byte text ≡ false
no_end p byte off [] h = refl
no_end p byte off (c ∷ []) h = false_from_ne_true (nat_eq c byte) (λ e. true≢false (sym (and_parts (p c) true h).0 ∙ ap p (eqb-true c byte e) ∙ off))
no_end p byte off (c ∷ d ∷ cs) h = no_end p byte off (d ∷ cs) (and_parts (p c) (list_all p (d ∷ cs)) h).1

-- a line that doesn't end in a byte
ends_apart : (byte : ℕ) (text : List ℕ) → ends_in byte text ≡ false → before_mark byte text ≡ None
ends_apart byte [] h = refl
ends_apart byte (c ∷ []) h = if_false (nat_eq c byte) (Some []) None h
ends_apart byte (c ∷ d ∷ cs) h = ap (option_map (λ (front : List ℕ). c ∷ front)) (ends_apart byte (d ∷ cs) h)

-- Comments, over any modes: those of the reader can't be named here

kept : {M : Type 0} (ahead : M → List ℕ → List ℕ) (next : M → ℕ → M) → ((m : M) → ahead m [] ≡ [])
    → ((m : M) (c : ℕ) (cs : List ℕ) → nat_eq c 35 ≡ false → ahead m (c ∷ cs) ≡ c ∷ ahead (next m c) cs) → (m : M) (line : List ℕ) → lacks 35 line ≡ true → ahead m line ≡ line
kept ahead next at_end step m [] h = at_end m
kept ahead next at_end step m (c ∷ cs) h =
    let parts = and_parts (not (nat_eq c 35)) (lacks 35 cs) h in
    step m c cs (not-true (nat_eq c 35) parts.0) ∙ ap (λ (l : List ℕ). c ∷ l) (kept ahead next at_end step (next m c) cs parts.1)

clear : (line : List ℕ) → lacks 35 line ≡ true → uncommented Pf line ≡ line
clear line h =
    kept (ahead_from Pf) (mode_behind Pf) (λ m. refl)
    (λ m c cs e. if_false (is_outside m && nat_eq c 35) [] (c ∷ ahead_from Pf (mode_behind Pf m c) cs) (and_right (is_outside m) (nat_eq c 35) e)) _ line h

-- Lines

-- what a line of words is
pub record IsLine (word : List ℕ) (words : List (List ℕ)) : Type 0 where
  pub single : is_one_line (spaced (word ∷ words)) ≡ true
  pub apart : before_mark 92 (spaced (word ∷ words)) ≡ None
  pub read : (n : ℕ) → read_statement n (spaced (word ∷ words)) ≡ record { number = n; indented = is_indented (spaced (word ∷ words)); words = map (word_at n) (word ∷ words) } ∷ []

pub line_back : (word : List ℕ) (words : List (List ℕ)) → AreWords (word ∷ words) → IsLine word words
line_back word words are =
    let line = spaced (word ∷ words) in
    let bytes : list_all is_line_byte line ≡ true = whole word words are in
    record {
      single = and_from (lacks 10 line) (not (ends_in 13 line)) (lacks_by is_line_byte 10 refl line bytes) (not_from_false (ends_in 13 line) (no_end is_line_byte 13 refl line bytes));
      apart = ends_apart 92 line (no_end is_line_byte 92 refl line bytes);
      read = λ n.
          ap (λ (l : List ℕ). line_of n (is_indented line) (words_of n l)) (clear line (lacks_by is_line_byte 35 refl line bytes))
          ∙ ap (line_of n (is_indented line)) (ap (words_of n) (spaced_from word words) ∙ taken n word words are);
    }
  where
    whole : (word : List ℕ) (words : List (List ℕ)) → AreWords (word ∷ words) → list_all is_line_byte (spaced (word ∷ words)) ≡ true
    whole word words (more h hs) =
        ap (list_all is_line_byte) (spaced_from word words) ∙ list_all-append is_line_byte word (behind_blanks words)
        ∙ and_from (list_all is_line_byte word) (list_all is_line_byte (behind_blanks words)) (word_bytes word h) (blanks_bytes words hs)

    taken : (n : ℕ) (word : List ℕ) (words : List (List ℕ)) → AreWords (word ∷ words) → words_of n (word ++ behind_blanks words) ≡ map (word_at n) (word ∷ words)
    taken n word words (more h hs) = word_taken n word words h ∙ ap (λ (l : List Word). word_at n word ∷ l) (rest_taken n words hs)

-- a line of a comment
abbrev pub is_comment : List ℕ → Bool
is_comment line = begins_hash line && is_one_line line && not (ends_in 92 line)

pub comment_read : (n : ℕ) (line : List ℕ) → begins_hash line ≡ true → read_statement n line ≡ []
comment_read n [] h = never h
comment_read n (c ∷ cs) h = ap (λ (l : List ℕ). line_of n (is_indented (c ∷ cs)) (words_of n l)) (if_true (nat_eq c 35) [] _ h)

pub comment_apart : (line : List ℕ) → is_comment line ≡ true → before_mark 92 line ≡ None
comment_apart line h = ends_apart 92 line (not-true (ends_in 92 line) (and_parts (begins_hash line && is_one_line line) (not (ends_in 92 line)) h).1)
