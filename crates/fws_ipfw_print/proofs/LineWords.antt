-- A line of words is read as these words, those with two slashes in a row from within quotes.
use Rattle.std.proofs.Common.{◌≡◌, ℕ, Bool, true, false, cond, ◌&&◌, ◌||◌, not, nat_eq, nat_le, Result, Ok, Err, List, [], ◌∷◌, ◌++◌, map, length, refl, ap, sym, ◌∙◌, append_assoc, append-nil, arith}
use Rattle.std.proofs.lemmas.Bool.{and_from, and_parts, and_right, or_from, or_parts, leb-true, ne_eqb, not-true, cond_both}
use Rattle.std.specs.List.{list_all}
use Rattle.fws_num.specs.declared.comments.Comments.TheVariants.{Ipfw}
use Rattle.fws_num.specs.declared.lines.Line.{Line}
use Rattle.fws_num.specs.declared.word.Word.{Word}
use Rattle.fws_num.specs.Comments.{ahead_from, begins_slashes, uncommented}
use Rattle.fws_num.specs.Lines.{is_indented, line_of, read_line}
use Rattle.fws_num.specs.Words.{is_blank, is_printed, plain_word, quoted_word, words_from, words_of}
use Rattle.fws_num.specs.Written.{has_slashes, is_plain_byte, spaced}
use Rattle.fws_net.specs.declared.cause.Cause.{Cause}
use Rattle.fws_net.specs.declared.cause.Cause.TheVariants.{Syntax}
use Rattle.fws_net.specs.Causes.{judged, words_read}
use Rattle.fws_net.specs.Reading.{and_then}
use Rattle.fws_print.specs.Words.{behind_blanks}
use Rattle.fws_ipfw_print.specs.PrintedText.{name_word}
use Rattle.fws_ipfw_print.proofs.Basics.{if_true, if_false, never}

-- Texts that can be written

-- a byte of a word: printed, and none of `"`, `#` and a backslash
abbrev pub is_inner : ℕ → Bool
is_inner c = is_plain_byte c && not (nat_eq c 35) && not (nat_eq c 92)

-- a word that is written as it is, or in quotes where two slashes stand in a row
abbrev pub is_writable : List ℕ → Bool
is_writable text = nat_le 1 (length text) && list_all is_inner text

-- the word that is read of a text
abbrev pub word_at : ℕ → List ℕ → Word
word_at n text = cond (has_slashes text) (quoted_word n text) (plain_word n text)

-- what is known of such a byte
record IsInner (c : ℕ) : Type 0 where
  printed : is_printed c ≡ true
  solid : is_blank c ≡ false
  unquoted : nat_eq c 34 ≡ false
  unmarked : nat_eq c 35 ≡ false
  unescaped : nat_eq c 92 ≡ false

inner : (c : ℕ) → is_inner c ≡ true → IsInner c
inner c h =
    let last = and_parts (is_plain_byte c && not (nat_eq c 35)) (not (nat_eq c 92)) h in
    let both = and_parts (is_plain_byte c) (not (nat_eq c 35)) last.0 in
    let plain = and_parts (is_printed c) (not (nat_eq c 34)) both.0 in
    let low = leb-true 33 c (and_parts (nat_le 33 c) (nat_le c 126) plain.0).0 in
    record {
      printed = plain.0;
      solid = or_from (nat_eq c 32) (nat_eq c 9) (ne_eqb c 32 (λ e. omega arith)) (ne_eqb c 9 (λ e. omega arith));
      unquoted = not-true (nat_eq c 34) plain.1;
      unmarked = not-true (nat_eq c 35) both.1;
      unescaped = not-true (nat_eq c 92) last.1;
    }

pub all_printed : (text : List ℕ) → list_all is_inner text ≡ true → list_all is_printed text ≡ true
all_printed [] h = refl
all_printed (c ∷ text) h =
    let parts = and_parts (is_inner c) (list_all is_inner text) h in
    and_from (is_printed c) (list_all is_printed text) (inner c parts.0).printed (all_printed text parts.1)

-- Comments, over any modes: those of the reader can't be named here

no_slashes_begin : (c : ℕ) (rest : List ℕ) → nat_eq c 47 ≡ false → begins_slashes (c ∷ rest) ≡ false
no_slashes_begin c [] h = refl
no_slashes_begin c (d ∷ rest) h = ap (λ b. b && nat_eq d 47) h

-- the end of a word lets no comment begin
slashes_apart : (c : ℕ) (cs : List ℕ) (ws : List (List ℕ)) → has_slashes (c ∷ cs) ≡ false → begins_slashes (c ∷ (cs ++ behind_blanks ws)) ≡ false
slashes_apart c [] [] h = refl
slashes_apart c [] (w ∷ ws) h = and_right (nat_eq c 47) false refl
slashes_apart c (d ∷ cs) ws h = (or_parts (begins_slashes (c ∷ d ∷ cs)) (has_slashes (d ∷ cs)) h).0

module _ {M : Type 0} (between plain quoted escaped : M) (ahead : M → List ℕ → List ℕ) (at_between : ahead between [] ≡ []) (at_plain : ahead plain [] ≡ [])
    (in_between : (c : ℕ) (rest : List ℕ) → nat_eq c 35 ≡ false → begins_slashes (c ∷ rest) ≡ false
    → ahead between (c ∷ rest) ≡ c ∷ ahead (cond (is_blank c) between (cond (nat_eq c 34) quoted plain)) rest)
    (in_plain : (c : ℕ) (rest : List ℕ) → nat_eq c 35 ≡ false → begins_slashes (c ∷ rest) ≡ false → ahead plain (c ∷ rest) ≡ c ∷ ahead (cond (is_blank c) between plain) rest)
    (in_quoted : (c : ℕ) (rest : List ℕ) → ahead quoted (c ∷ rest) ≡ c ∷ ahead (cond (nat_eq c 34) between (cond (nat_eq c 92) escaped quoted)) rest) where
  plain_kept : (cs : List ℕ) (ws : List (List ℕ)) → list_all is_inner cs ≡ true → has_slashes cs ≡ false → ahead plain (cs ++ behind_blanks ws) ≡ cs ++ ahead plain (behind_blanks ws)
  plain_kept [] ws h k = refl
  plain_kept (c ∷ cs) ws h k =
      let parts = and_parts (is_inner c) (list_all is_inner cs) h in
      let byte = inner c parts.0 in
      in_plain c (cs ++ behind_blanks ws) byte.unmarked (slashes_apart c cs ws k)
      ∙ ap (λ b. c ∷ ahead (cond b between plain) (cs ++ behind_blanks ws)) byte.solid
      ∙ ap (λ text. c ∷ text) (plain_kept cs ws parts.1 (or_parts (begins_slashes (c ∷ cs)) (has_slashes cs) k).1)

  quoted_kept : (cs rest : List ℕ) → list_all is_inner cs ≡ true → ahead quoted (cs ++ 34 ∷ rest) ≡ cs ++ 34 ∷ ahead between rest
  quoted_kept [] rest h = in_quoted 34 rest
  quoted_kept (c ∷ cs) rest h =
      let parts = and_parts (is_inner c) (list_all is_inner cs) h in
      let byte = inner c parts.0 in
      in_quoted c (cs ++ 34 ∷ rest)
      ∙ ap (λ b. c ∷ ahead (cond b between (cond (nat_eq c 92) escaped quoted)) (cs ++ 34 ∷ rest)) byte.unquoted
      ∙ ap (λ b. c ∷ ahead (cond b escaped quoted) (cs ++ 34 ∷ rest)) byte.unescaped
      ∙ ap (λ text. c ∷ text) (quoted_kept cs rest parts.1)

  -- what follows a word: behind a quoted one, or else behind one without quotes
  record Kept (ws : List (List ℕ)) : Type 0 where
    behind_quote : ahead between (behind_blanks ws) ≡ behind_blanks ws
    behind_byte : ahead plain (behind_blanks ws) ≡ behind_blanks ws

  word_kept : (text : List ℕ) (ws : List (List ℕ)) → is_writable text ≡ true → Kept ws → ahead between (name_word text ++ behind_blanks ws) ≡ name_word text ++ behind_blanks ws
  word_kept [] ws h rest = never h
  word_kept (c ∷ cs) ws h rest =
      let text = c ∷ cs in
      let bytes = (and_parts (nat_le 1 (length text)) (list_all is_inner text) h).1 in
      cond_both (has_slashes text) (34 ∷ text ++ 34 ∷ []) text (λ (w : List ℕ). ahead between (w ++ behind_blanks ws) ≡ w ++ behind_blanks ws)
      (λ e.
      let behind = append_assoc text (34 ∷ []) (behind_blanks ws) in
      in_between 34 ((text ++ 34 ∷ []) ++ behind_blanks ws) refl (no_slashes_begin 34 ((text ++ 34 ∷ []) ++ behind_blanks ws) refl)
      ∙ ap (λ (l : List ℕ). 34 ∷ ahead quoted l) behind
      ∙ ap (λ (l : List ℕ). 34 ∷ l) (quoted_kept text (behind_blanks ws) bytes)
      ∙ ap (λ (l : List ℕ). 34 ∷ (text ++ 34 ∷ l)) rest.behind_quote
      ∙ ap (λ (l : List ℕ). 34 ∷ l) (sym behind))
      (λ e.
      let parts = and_parts (is_inner c) (list_all is_inner cs) bytes in
      let byte = inner c parts.0 in
      in_between c (cs ++ behind_blanks ws) byte.unmarked (slashes_apart c cs ws e)
      ∙ ap (λ b. c ∷ ahead (cond b between (cond (nat_eq c 34) quoted plain)) (cs ++ behind_blanks ws)) byte.solid
      ∙ ap (λ b. c ∷ ahead (cond b quoted plain) (cs ++ behind_blanks ws)) byte.unquoted
      ∙ ap (λ (l : List ℕ). c ∷ l) (plain_kept cs ws parts.1 (or_parts (begins_slashes text) (has_slashes cs) e).1)
      ∙ ap (λ (l : List ℕ). c ∷ (cs ++ l)) rest.behind_byte)

  rest_kept : (texts : List (List ℕ)) → list_all is_writable texts ≡ true → Kept (map name_word texts)
  rest_kept [] h = record { behind_quote = at_between; behind_byte = at_plain }
  rest_kept (text ∷ texts) h =
      let parts = and_parts (is_writable text) (list_all is_writable texts) h in
      let rest = name_word text ++ behind_blanks (map name_word texts) in
      let word = ap (λ (l : List ℕ). 32 ∷ l) (word_kept text (map name_word texts) parts.0 (rest_kept texts parts.1)) in
      record {
        behind_quote = in_between 32 rest refl (no_slashes_begin 32 rest refl) ∙ word;
        behind_byte = in_plain 32 rest refl (no_slashes_begin 32 rest refl) ∙ word;
      }

  pub line_kept : (text : List ℕ) (texts : List (List ℕ)) (line : List ℕ) → list_all is_writable (text ∷ texts) ≡ true → line ≡ name_word text ++ behind_blanks (map name_word texts)
      → ahead between line ≡ line
  line_kept text texts line h is =
      let parts = and_parts (is_writable text) (list_all is_writable texts) h in
      ap (ahead between) is ∙ word_kept text (map name_word texts) parts.0 (rest_kept texts parts.1) ∙ sym is

-- Words, over any modes

module _ (n : ℕ) {M : Type 0} (between plain quoted escaped : M) (words : M → List ℕ → List ℕ → List Word) (at_between : (text : List ℕ) → words between text [] ≡ [])
    (at_plain : (text : List ℕ) → words plain text [] ≡ plain_word n text ∷ [])
    (in_between : (text : List ℕ) (c : ℕ) (rest : List ℕ)
    → words between text (c ∷ rest) ≡ cond (is_blank c) (words between [] rest) (cond (nat_eq c 34) (words quoted [] rest) (words plain (c ∷ []) rest)))
    (in_plain : (text : List ℕ) (c : ℕ) (rest : List ℕ)
    → words plain text (c ∷ rest) ≡ cond (is_blank c) (plain_word n text ∷ words between [] rest) (words plain (text ++ c ∷ []) rest))
    (in_quoted : (text : List ℕ) (c : ℕ) (rest : List ℕ)
    → words quoted text (c ∷ rest) ≡ cond (nat_eq c 34) (quoted_word n text ∷ words between [] rest) (cond (nat_eq c 92) (words escaped text rest) (words quoted (text ++ c ∷ []) rest)))
  where
    plain_taken : (text cs rest : List ℕ) → list_all is_inner cs ≡ true → words plain text (cs ++ rest) ≡ words plain (text ++ cs) rest
    plain_taken text [] rest h = ap (λ (t : List ℕ). words plain t rest) (sym (append-nil text))
    plain_taken text (c ∷ cs) rest h =
        let parts = and_parts (is_inner c) (list_all is_inner cs) h in
        in_plain text c (cs ++ rest)
        ∙ if_false (is_blank c) (plain_word n text ∷ words between [] (cs ++ rest)) (words plain (text ++ c ∷ []) (cs ++ rest)) (inner c parts.0).solid
        ∙ plain_taken (text ++ c ∷ []) cs rest parts.1
        ∙ ap (λ (t : List ℕ). words plain t rest) (append_assoc text (c ∷ []) cs)

    quoted_taken : (text cs rest : List ℕ) → list_all is_inner cs ≡ true → words quoted text (cs ++ 34 ∷ rest) ≡ quoted_word n (text ++ cs) ∷ words between [] rest
    quoted_taken text [] rest h = in_quoted text 34 rest ∙ ap (λ (t : List ℕ). quoted_word n t ∷ words between [] rest) (sym (append-nil text))
    quoted_taken text (c ∷ cs) rest h =
        let parts = and_parts (is_inner c) (list_all is_inner cs) h in
        let byte = inner c parts.0 in
        let others = cs ++ 34 ∷ rest in
        in_quoted text c others
        ∙ if_false (nat_eq c 34) (quoted_word n text ∷ words between [] others) (cond (nat_eq c 92) (words escaped text others) (words quoted (text ++ c ∷ []) others)) byte.unquoted
        ∙ if_false (nat_eq c 92) (words escaped text others) (words quoted (text ++ c ∷ []) others) byte.unescaped
        ∙ quoted_taken (text ++ c ∷ []) cs rest parts.1
        ∙ ap (λ (t : List ℕ). quoted_word n t ∷ words between [] rest) (append_assoc text (c ∷ []) cs)

    word_ended : (text : List ℕ) (ws : List (List ℕ)) → words plain text (behind_blanks ws) ≡ plain_word n text ∷ words between [] (behind_blanks ws)
    word_ended text [] = at_plain text ∙ ap (λ (l : List Word). plain_word n text ∷ l) (sym (at_between []))
    word_ended text (w ∷ ws) = in_plain text 32 (w ++ behind_blanks ws) ∙ ap (λ (l : List Word). plain_word n text ∷ l) (sym (in_between [] 32 (w ++ behind_blanks ws)))

    word_taken : (text : List ℕ) (ws : List (List ℕ)) → is_writable text ≡ true → words between [] (name_word text ++ behind_blanks ws) ≡ word_at n text ∷ words between [] (behind_blanks ws)
    word_taken [] ws h = never h
    word_taken (c ∷ cs) ws h = step (has_slashes (c ∷ cs)) (and_parts (nat_le 1 (length (c ∷ cs))) (list_all is_inner (c ∷ cs)) h).1
      where
        step : (b : Bool) → list_all is_inner (c ∷ cs) ≡ true
            → words between [] (cond b (34 ∷ (c ∷ cs) ++ 34 ∷ []) (c ∷ cs) ++ behind_blanks ws) ≡ cond b (quoted_word n (c ∷ cs)) (plain_word n (c ∷ cs)) ∷ words between [] (behind_blanks ws)
        step true bytes =
            in_between [] 34 (((c ∷ cs) ++ 34 ∷ []) ++ behind_blanks ws)
            ∙ ap (λ (l : List ℕ). words quoted [] l) (append_assoc (c ∷ cs) (34 ∷ []) (behind_blanks ws)) ∙ quoted_taken [] (c ∷ cs) (behind_blanks ws) bytes
        step false bytes =
            let parts = and_parts (is_inner c) (list_all is_inner cs) bytes in
            let byte = inner c parts.0 in
            let others = cs ++ behind_blanks ws in
            in_between [] c others
            ∙ if_false (is_blank c) (words between [] others) (cond (nat_eq c 34) (words quoted [] others) (words plain (c ∷ []) others)) byte.solid
            ∙ if_false (nat_eq c 34) (words quoted [] others) (words plain (c ∷ []) others) byte.unquoted
            ∙ plain_taken (c ∷ []) cs (behind_blanks ws) parts.1
            ∙ word_ended (c ∷ cs) ws

    rest_taken : (texts : List (List ℕ)) → list_all is_writable texts ≡ true → words between [] (behind_blanks (map name_word texts)) ≡ map (word_at n) texts
    rest_taken [] h = at_between []
    rest_taken (text ∷ texts) h =
        let parts = and_parts (is_writable text) (list_all is_writable texts) h in
        in_between [] 32 (name_word text ++ behind_blanks (map name_word texts))
        ∙ word_taken text (map name_word texts) parts.0 ∙ ap (λ (l : List Word). word_at n text ∷ l) (rest_taken texts parts.1)

    pub line_taken : (text : List ℕ) (texts : List (List ℕ)) (line : List ℕ) → list_all is_writable (text ∷ texts) ≡ true → line ≡ name_word text ++ behind_blanks (map name_word texts)
        → words between [] line ≡ map (word_at n) (text ∷ texts)
    line_taken text texts line h is =
        let parts = and_parts (is_writable text) (list_all is_writable texts) h in
        ap (words between []) is ∙ word_taken text (map name_word texts) parts.0 ∙ ap (λ (l : List Word). word_at n text ∷ l) (rest_taken texts parts.1)

-- Lines

pub spaced_from : (word : List ℕ) (words : List (List ℕ)) → spaced (word ∷ words) ≡ word ++ behind_blanks words
spaced_from word [] = sym (append-nil word)
spaced_from word (next ∷ words) = ap (λ text. word ++ 32 ∷ text) (spaced_from next words)

-- the line with these words
abbrev pub line_at : ℕ → List (List ℕ) → Line
line_at n texts = record { number = n; indented = is_indented (spaced (map name_word texts)); words = map (word_at n) texts }

-- both readings of a line, over the same modes
line_both : (n : ℕ) {M : Type 0} (between plain quoted escaped : M) (ahead : M → List ℕ → List ℕ) (at_between : ahead between [] ≡ []) (at_plain : ahead plain [] ≡ [])
    (in_between : (c : ℕ) (rest : List ℕ) → nat_eq c 35 ≡ false → begins_slashes (c ∷ rest) ≡ false
    → ahead between (c ∷ rest) ≡ c ∷ ahead (cond (is_blank c) between (cond (nat_eq c 34) quoted plain)) rest)
    (in_plain : (c : ℕ) (rest : List ℕ) → nat_eq c 35 ≡ false → begins_slashes (c ∷ rest) ≡ false → ahead plain (c ∷ rest) ≡ c ∷ ahead (cond (is_blank c) between plain) rest)
    (in_quoted : (c : ℕ) (rest : List ℕ) → ahead quoted (c ∷ rest) ≡ c ∷ ahead (cond (nat_eq c 34) between (cond (nat_eq c 92) escaped quoted)) rest)
    (words : M → List ℕ → List ℕ → List Word) (words_between : (text : List ℕ) → words between text [] ≡ [])
    (words_plain : (text : List ℕ) → words plain text [] ≡ plain_word n text ∷ [])
    (word_between : (text : List ℕ) (c : ℕ) (rest : List ℕ)
    → words between text (c ∷ rest) ≡ cond (is_blank c) (words between [] rest) (cond (nat_eq c 34) (words quoted [] rest) (words plain (c ∷ []) rest)))
    (word_plain : (text : List ℕ) (c : ℕ) (rest : List ℕ)
    → words plain text (c ∷ rest) ≡ cond (is_blank c) (plain_word n text ∷ words between [] rest) (words plain (text ++ c ∷ []) rest))
    (word_quoted : (text : List ℕ) (c : ℕ) (rest : List ℕ)
    → words quoted text (c ∷ rest) ≡ cond (nat_eq c 34) (quoted_word n text ∷ words between [] rest) (cond (nat_eq c 92) (words escaped text rest) (words quoted (text ++ c ∷ []) rest)))
    (text : List ℕ) (texts : List (List ℕ)) (line : List ℕ) → list_all is_writable (text ∷ texts) ≡ true → line ≡ name_word text ++ behind_blanks (map name_word texts)
    → (ahead between line ≡ line) × (words between [] line ≡ map (word_at n) (text ∷ texts))
line_both n between plain quoted escaped ahead at_between at_plain in_between in_plain in_quoted words words_between words_plain word_between word_plain word_quoted text texts line h is = (
  line_kept between plain quoted escaped ahead at_between at_plain in_between in_plain in_quoted text texts line h is,
  line_taken n between plain quoted escaped words words_between words_plain word_between word_plain word_quoted text texts line h is,
)

line_read : (n : ℕ) (text : List ℕ) (texts : List (List ℕ)) (line : List ℕ) → list_all is_writable (text ∷ texts) ≡ true → line ≡ name_word text ++ behind_blanks (map name_word texts)
    → (uncommented Ipfw line ≡ line) × (words_of n line ≡ map (word_at n) (text ∷ texts))
line_read n text texts line h is =
    line_both n _ _ _ _ (ahead_from Ipfw) refl refl
    (λ c rest h k. if_false (nat_eq c 35 || begins_slashes (c ∷ rest)) [] _ (or_from (nat_eq c 35) (begins_slashes (c ∷ rest)) h k))
    (λ c rest h k. if_false (nat_eq c 35 || begins_slashes (c ∷ rest)) [] _ (or_from (nat_eq c 35) (begins_slashes (c ∷ rest)) h k))
    (λ c rest. refl) (words_from n) (λ text. refl) (λ text. refl) (λ text c rest. refl) (λ text c rest. refl) (λ text c rest. refl) text texts line h is

pub line_back : (n : ℕ) (text : List ℕ) (texts : List (List ℕ)) → list_all is_writable (text ∷ texts) ≡ true → read_line Ipfw n (spaced (map name_word (text ∷ texts))) ≡ line_at n (text ∷ texts) ∷ []
line_back n text texts h =
    let line = spaced (map name_word (text ∷ texts)) in
    let read = line_read n text texts line h (spaced_from (name_word text) (map name_word texts)) in
    ap (λ (l : List ℕ). line_of n (is_indented line) (words_of n l)) read.0 ∙ ap (line_of n (is_indented line)) read.1

-- Words as they are read

-- a word of a line is judged by what is read of its text
pub word_judged : {A : Type 0} (n : ℕ) (text : List ℕ) (step : List ℕ → Result A Cause) → is_writable text ≡ true → judged (word_at n text) (step (word_at n text).text) ≡ step text
word_judged n text step h =
    cond_both (has_slashes text) (quoted_word n text) (plain_word n text) (λ (w : Word). judged w (step w.text) ≡ step text) (λ e. refl)
    (λ e. if_true (list_all is_printed text) (step text) (Err Syntax) (all_printed text (and_parts (nat_le 1 (length text)) (list_all is_inner text) h).1))

-- the words, if all of them can be judged
abbrev pub texts_read : {S : Type 0} → (S → List ℕ → Result S Cause) → S → List (List ℕ) → Result S Cause
texts_read step state [] = Ok state
texts_read step state (text ∷ texts) = and_then (step state text) (λ next. texts_read step next texts)

then_each : {A B E : Type 0} (o : Result A E) (f g : A → Result B E) → ((x : A) → f x ≡ g x) → and_then o f ≡ and_then o g
then_each (Ok x) f g h = h x
then_each (Err e) f g h = refl

pub words_by_texts : {S : Type 0} (step : S → List ℕ → Result S Cause) (n : ℕ) (texts : List (List ℕ)) (state : S) → list_all is_writable texts ≡ true
    → words_read (λ s w. step s w.text) state (map (word_at n) texts) ≡ texts_read step state texts
words_by_texts step n [] state h = refl
words_by_texts step n (text ∷ texts) state h =
    let parts = and_parts (is_writable text) (list_all is_writable texts) h in
    ap (λ o. and_then o (λ next. words_read (λ s w. step s w.text) next (map (word_at n) texts))) (word_judged n text (step state) parts.0)
    ∙ then_each (step state text) (λ next. words_read (λ s w. step s w.text) next (map (word_at n) texts)) (λ next. texts_read step next texts)
    (λ next. words_by_texts step n texts next parts.1)

-- a word that is taken
pub word_then : {S : Type 0} (step : S → List ℕ → Result S Cause) (text : List ℕ) (rest : List (List ℕ)) (s t : S) → step s text ≡ Ok t → texts_read step s (text ∷ rest) ≡ texts_read step t rest
word_then step text rest s t h = ap (λ o. and_then o (λ next. texts_read step next rest)) h
