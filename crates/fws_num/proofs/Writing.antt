-- Words, lines and texts that are written and read.
use Rattle.std.proofs.Common.{◌≡◌, ℕ, suc, ◌-◌, ◌<◌, Bool, true, false, cond, ◌||◌, ◌&&◌, not, nat_eq, nat_le, List, [], ◌∷◌, ◌++◌, length, get_or, map, append_assoc, refl, ap, sym, ◌∙◌, arith}
use Rattle.std.proofs.lemmas.Bool.Decides.{nat_tests}
use Rattle.std.proofs.lemmas.List.{append-nil, length-map}
use Rattle.std.specs.List.{list_all}
use Rattle.std.specs.Str.Lines.{strip_carriage_return}
use Rattle.fws_num.specs.declared.word.Mode.{Mode}
use Rattle.fws_num.specs.declared.word.Mode.TheVariants.{Between, Plain, Quoted, Escaped}
use Rattle.fws_num.specs.declared.comments.Comments.{Comments}
use Rattle.fws_num.specs.declared.comments.Comments.TheVariants.{HashLine, Pf, Ipfw, Ios}
use Rattle.fws_num.specs.Comments.{is_hash_comment, is_exclamation, divides, mode_behind, begins_hash, begins_slashes, begins_mark, is_outside, ahead_from, uncommented}
use Rattle.fws_num.specs.Lines.{is_indented, line_of, lines_of, numbered, read_line, read_of}
use Rattle.fws_num.specs.Numbers.{lacks}
use Rattle.fws_num.specs.Words.{is_blank, plain_word, words_from, words_of}
use Rattle.fws_num.specs.Written.{Written, is_plain, is_plain_byte, spaced, line_bytes, ended, text_of, has_slashes, is_clear, is_writable, lines_written, ends_in, is_one_line}
use Rattle.fws_num.proofs.Decimals.{both}
use Rattle.fws_num.proofs.Divided.{all_weaker, lacks-append, not-true, splits_back}
use Rattle.fws_num.proofs.Splitting.{lines_of-line}

-- a byte of a plain word neither divides words nor opens quotes
plain-no_blank : (c : ℕ) → is_plain_byte c ≡ true → is_blank c ≡ false
plain-no_blank c h = grind (arith, nat_tests, h)

plain-no_quote : (c : ℕ) → is_plain_byte c ≡ true → nat_eq c 34 ≡ false
plain-no_quote c h = grind (arith, nat_tests, h)

plain-not_below : (byte : ℕ) → byte < 32 → (c : ℕ) → is_plain_byte c ≡ true → not (nat_eq c byte) ≡ true
plain-not_below byte l c h = grind (arith, nat_tests, h)

-- a plain word by its first byte and the others
record Plainly (word : List ℕ) : Type 0 where
  first : ℕ
  others : List ℕ
  word_is : word ≡ first ∷ others
  first_plain : is_plain_byte first ≡ true
  others_plain : list_all is_plain_byte others ≡ true

plainly : (word : List ℕ) → is_plain word ≡ true → Plainly word
plainly [] h = cc
plainly (c ∷ cs) h =
    let all = both (nat_le 1 (length (c ∷ cs))) (list_all is_plain_byte (c ∷ cs)) h in
    let parts = both (is_plain_byte c) (list_all is_plain_byte cs) all.1 in
    record { first = c; others = cs; word_is = refl; first_plain = parts.0; others_plain = parts.1 }

plain-all : (word : List ℕ) → is_plain word ≡ true → list_all is_plain_byte word ≡ true
plain-all word h = (both (nat_le 1 (length word)) (list_all is_plain_byte word) h).1

-- the bytes of a plain word are read into the word that has begun
more-read : (n : ℕ) (text word rest : List ℕ) → list_all is_plain_byte word ≡ true → words_from n Plain text (word ++ rest) ≡ words_from n Plain (text ++ word) rest
more-read n text [] rest h = ap (λ t. words_from n Plain t rest) (sym (append-nil text))
more-read n text (c ∷ cs) rest h =
    let parts = both (is_plain_byte c) (list_all is_plain_byte cs) h in
    rw (plain-no_blank c parts.0) (more-read n (text ++ c ∷ []) cs rest parts.1 ∙ ap (λ t. words_from n Plain t rest) (append_assoc text (c ∷ []) cs))

first-read : (n c : ℕ) (cs rest : List ℕ) → is_plain_byte c ≡ true → list_all is_plain_byte cs ≡ true → words_from n Between [] (c ∷ (cs ++ rest)) ≡ words_from n Plain (c ∷ cs) rest
first-read n c cs rest h k = rw (plain-no_blank c h, plain-no_quote c h) (more-read n (c ∷ []) cs rest k)

word-read : (n : ℕ) (word rest : List ℕ) → is_plain word ≡ true → words_of n (word ++ rest) ≡ words_from n Plain word rest
word-read n word rest h =
    let w = plainly word h in
    rw w.word_is (first-read n w.first w.others rest w.first_plain w.others_plain)

pub words-read : (n : ℕ) (ws : List (List ℕ)) → list_all is_plain ws ≡ true → words_of n (spaced ws) ≡ map (plain_word n) ws
words-read n [] h = refl
words-read n (w ∷ []) h = ap (words_of n) (sym (append-nil w)) ∙ word-read n w [] (both (is_plain w) true h).0
words-read n (w ∷ v ∷ vs) h =
    let parts = both (is_plain w) (list_all is_plain (v ∷ vs)) h in
    word-read n w (32 ∷ spaced (v ∷ vs)) parts.0 ∙ ap (λ l. plain_word n w ∷ l) (words-read n (v ∷ vs) parts.1)

-- bytes below the blank don't stand in plain words
word-lacks : (byte : ℕ) → byte < 32 → (word : List ℕ) → is_plain word ≡ true → lacks byte word ≡ true
word-lacks byte l word h = all_weaker is_plain_byte (λ c. not (nat_eq c byte)) (plain-not_below byte l) word (plain-all word h)

blank-lacks : (byte : ℕ) (rest : List ℕ) → byte < 32 → lacks byte rest ≡ true → lacks byte (32 ∷ rest) ≡ true
blank-lacks byte rest l h = let e : not (nat_eq 32 byte) ≡ true = grind (arith, nat_tests) in rw (e, h) refl

spaced-lacks : (byte : ℕ) → byte < 32 → (ws : List (List ℕ)) → list_all is_plain ws ≡ true → lacks byte (spaced ws) ≡ true
spaced-lacks byte l [] h = refl
spaced-lacks byte l (w ∷ []) h = word-lacks byte l w (both (is_plain w) true h).0
spaced-lacks byte l (w ∷ v ∷ vs) h =
    let parts = both (is_plain w) (list_all is_plain (v ∷ vs)) h in
    lacks-append byte w (32 ∷ spaced (v ∷ vs)) (word-lacks byte l w parts.0) (blank-lacks byte (spaced (v ∷ vs)) l (spaced-lacks byte l (v ∷ vs) parts.1))

bytes-lacks : (byte : ℕ) → byte < 32 → (indented : Bool) (ws : List (List ℕ)) → list_all is_plain ws ≡ true → lacks byte (line_bytes (record { indented = indented; words = ws })) ≡ true
bytes-lacks byte l true ws h = blank-lacks byte (spaced ws) l (spaced-lacks byte l ws h)
bytes-lacks byte l false ws h = spaced-lacks byte l ws h

-- a byte that a text lacks doesn't end it
ends_in-lacks : (byte : ℕ) (line : List ℕ) → lacks byte line ≡ true → ends_in byte line ≡ false
ends_in-lacks byte [] h = refl
ends_in-lacks byte (c ∷ []) h = not-true (nat_eq c byte) (both (not (nat_eq c byte)) true h).0
ends_in-lacks byte (c ∷ d ∷ cs) h = ends_in-lacks byte (d ∷ cs) (both (not (nat_eq c byte)) (lacks byte (d ∷ cs)) h).1

one_line-lacks : (line : List ℕ) → lacks 10 line ≡ true → lacks 13 line ≡ true → is_one_line line ≡ true
one_line-lacks line h k = rw (h, ends_in-lacks 13 line k) refl

-- the last byte decides whether a carriage return is stripped
last-tested : (byte : ℕ) (line : List ℕ) → 0 < length line → nat_eq (get_or line (length line - 1) 0) byte ≡ ends_in byte line
last-tested byte [] h = absurd (omega arith)
last-tested byte (c ∷ []) h = refl
last-tested byte (c ∷ d ∷ cs) h =
    let e : length (c ∷ d ∷ cs) - 1 ≡ suc (length (d ∷ cs) - 1) = omega arith in
    rw e (last-tested byte (d ∷ cs) (omega arith))

kept_whole : (line : List ℕ) → ends_in 13 line ≡ false → strip_carriage_return line ≡ line
kept_whole [] h = refl
kept_whole (c ∷ cs) h =
    let e : nat_eq (get_or (c ∷ cs) (length (c ∷ cs) - 1) 0) 13 ≡ false = last-tested 13 (c ∷ cs) (omega arith) ∙ h in
    rw e refl

pub lines-read : (ls : List (List ℕ)) → list_all is_one_line ls ≡ true → lines_of (ended ls) ≡ ls
lines-read [] h = refl
lines-read (l ∷ ls) h =
    let parts = both (is_one_line l) (list_all is_one_line ls) h in
    let tests = both (lacks 10 l) (not (ends_in 13 l)) parts.0 in
    lines_of-line (l ++ 10 ∷ ended ls) l (ended ls) (splits_back 10 l (ended ls) tests.0)
    ∙ rw (kept_whole l (not-true (ends_in 13 l) tests.1), lines-read ls parts.1) refl

-- neither a mark of a comment nor a quote from here on
abbrev quiet : Comments → List ℕ → Bool
quiet kind [] = true
quiet kind (c ∷ cs) = not (begins_mark kind (c ∷ cs)) && not (nat_eq c 34) && quiet kind cs

outside-either : (b : Bool) → is_outside (cond b Between Plain) ≡ true
outside-either true = refl
outside-either false = refl

mode-stays : (kind : Comments) (mode : Mode) (c : ℕ) → is_outside mode ≡ true → nat_eq c 34 ≡ false → is_outside (mode_behind kind mode c) ≡ true
mode-stays kind Between c h k = rw k (outside-either (divides kind c))
mode-stays kind Plain c h k = outside-either (divides kind c)
mode-stays kind Quoted c h k = cc
mode-stays kind Escaped c h k = cc

ahead-quiet : (kind : Comments) (mode : Mode) (bytes : List ℕ) → is_outside mode ≡ true → quiet kind bytes ≡ true → ahead_from kind mode bytes ≡ bytes
ahead-quiet kind mode [] o h = refl
ahead-quiet kind mode (c ∷ cs) o h =
    let all = both (not (begins_mark kind (c ∷ cs)) && not (nat_eq c 34)) (quiet kind cs) h in
    let two = both (not (begins_mark kind (c ∷ cs))) (not (nat_eq c 34)) all.0 in
    let rest = ahead-quiet kind (mode_behind kind mode c) cs (mode-stays kind mode c o (not-true (nat_eq c 34) two.1)) all.1 in
    rw (o, not-true (begins_mark kind (c ∷ cs)) two.0) (ap (λ l. c ∷ l) rest)

-- what a plain word without a comment has
quiet-pf : (cs : List ℕ) → list_all is_plain_byte cs ≡ true → lacks 35 cs ≡ true → quiet Pf cs ≡ true
quiet-pf [] h k = refl
quiet-pf (c ∷ cs) h k =
    let plain = both (is_plain_byte c) (list_all is_plain_byte cs) h in
    let clear = both (not (nat_eq c 35)) (lacks 35 cs) k in
    rw (clear.0, plain-no_quote c plain.0, quiet-pf cs plain.1 clear.1) refl

neither : (a b : Bool) → not (a || b) ≡ true → (a ≡ false) × (b ≡ false)
neither true b h = cc
neither false true h = cc
neither false false h = (refl, refl)

quiet-ipfw : (cs : List ℕ) → list_all is_plain_byte cs ≡ true → lacks 35 cs ≡ true → not (has_slashes cs) ≡ true → quiet Ipfw cs ≡ true
quiet-ipfw [] h k s = refl
quiet-ipfw (c ∷ cs) h k s =
    let plain = both (is_plain_byte c) (list_all is_plain_byte cs) h in
    let clear = both (not (nat_eq c 35)) (lacks 35 cs) k in
    let none = neither (begins_slashes (c ∷ cs)) (has_slashes cs) s in
    let more : quiet Ipfw cs ≡ true = quiet-ipfw cs plain.1 clear.1 (ap not none.1) in
    rw (not-true (nat_eq c 35) clear.0, none.0, plain-no_quote c plain.0, more) refl

-- a blank begins no comment, and none begins across one
mark-blank : (kind : Comments) (rest : List ℕ) → begins_mark kind (32 ∷ rest) ≡ false
mark-blank HashLine rest = refl
mark-blank Pf rest = refl
mark-blank Ios rest = refl
mark-blank Ipfw [] = refl
mark-blank Ipfw (c ∷ cs) = refl

quiet-blank : (kind : Comments) (rest : List ℕ) → quiet kind rest ≡ true → quiet kind (32 ∷ rest) ≡ true
quiet-blank kind rest h = rw (mark-blank kind rest, h) refl

half-mark : (a b : Bool) → (a || false) ≡ false → (a || (b && false)) ≡ false
half-mark true b h = h
half-mark false true h = refl
half-mark false false h = refl

mark-across : (kind : Comments) (c : ℕ) (cs rest : List ℕ) → begins_mark kind (c ∷ cs) ≡ false → begins_mark kind (c ∷ (cs ++ 32 ∷ rest)) ≡ false
mark-across HashLine c cs rest h = h
mark-across Pf c cs rest h = h
mark-across Ios c cs rest h = h
mark-across Ipfw c [] rest h = half-mark (nat_eq c 35) (nat_eq c 47) h
mark-across Ipfw c (d ∷ ds) rest h = h

quiet-across : (kind : Comments) (word rest : List ℕ) → quiet kind word ≡ true → quiet kind rest ≡ true → quiet kind (word ++ 32 ∷ rest) ≡ true
quiet-across kind [] rest h k = quiet-blank kind rest k
quiet-across kind (c ∷ cs) rest h k =
    let all = both (not (begins_mark kind (c ∷ cs)) && not (nat_eq c 34)) (quiet kind cs) h in
    let two = both (not (begins_mark kind (c ∷ cs))) (not (nat_eq c 34)) all.0 in
    let mark = mark-across kind c cs rest (not-true (begins_mark kind (c ∷ cs)) two.0) in
    rw (mark, two.1, quiet-across kind cs rest all.1 k) refl

quiet-spaced : (kind : Comments) (ws : List (List ℕ)) → list_all (quiet kind) ws ≡ true → quiet kind (spaced ws) ≡ true
quiet-spaced kind [] h = refl
quiet-spaced kind (w ∷ []) h = (both (quiet kind w) true h).0
quiet-spaced kind (w ∷ v ∷ vs) h =
    let parts = both (quiet kind w) (list_all (quiet kind) (v ∷ vs)) h in
    quiet-across kind w (spaced (v ∷ vs)) parts.0 (quiet-spaced kind (v ∷ vs) parts.1)

-- the bytes of a line with these words
abbrev bytes_of : Bool → List (List ℕ) → List ℕ
bytes_of indented ws = line_bytes (record { indented = indented; words = ws })

quiet-bytes : (kind : Comments) (indented : Bool) (ws : List (List ℕ)) → list_all (quiet kind) ws ≡ true → ahead_from kind Between (bytes_of indented ws) ≡ bytes_of indented ws
quiet-bytes kind true ws h = ahead-quiet kind Between (32 ∷ spaced ws) refl (quiet-blank kind (spaced ws) (quiet-spaced kind ws h))
quiet-bytes kind false ws h = ahead-quiet kind Between (spaced ws) refl (quiet-spaced kind ws h)

quiet-words_pf : (ws : List (List ℕ)) → list_all is_plain ws ≡ true → list_all (lacks 35) ws ≡ true → list_all (quiet Pf) ws ≡ true
quiet-words_pf [] h k = refl
quiet-words_pf (w ∷ ws) h k =
    let plain = both (is_plain w) (list_all is_plain ws) h in
    let clear = both (lacks 35 w) (list_all (lacks 35) ws) k in
    rw (quiet-pf w (plain-all w plain.0) clear.0, quiet-words_pf ws plain.1 clear.1) refl

quiet-words_ipfw : (ws : List (List ℕ)) → list_all is_plain ws ≡ true → list_all (λ word. lacks 35 word && not (has_slashes word)) ws ≡ true → list_all (quiet Ipfw) ws ≡ true
quiet-words_ipfw [] h k = refl
quiet-words_ipfw (w ∷ ws) h k =
    let plain = both (is_plain w) (list_all is_plain ws) h in
    let clear = both (lacks 35 w && not (has_slashes w)) (list_all (λ word. lacks 35 word && not (has_slashes word)) ws) k in
    let two = both (lacks 35 w) (not (has_slashes w)) clear.0 in
    rw (quiet-ipfw w (plain-all w plain.0) two.0 two.1, quiet-words_ipfw ws plain.1 clear.1) refl

-- the first byte of the words is that of the first word
spaced-first : (c : ℕ) (cs : List ℕ) (ws : List (List ℕ)) → (rest : List ℕ) × (spaced ((c ∷ cs) ∷ ws) ≡ c ∷ rest)
spaced-first c cs [] = (cs, refl)
spaced-first c cs (v ∷ vs) = (cs ++ 32 ∷ spaced (v ∷ vs), refl)

hash-none : (w : List ℕ) (ws : List (List ℕ)) → is_plain w ≡ true → begins_hash w ≡ false → is_hash_comment (spaced (w ∷ ws)) ≡ false
hash-none [] ws h k = cc
hash-none (c ∷ cs) ws h k =
    let plain = both (is_plain_byte c) (list_all is_plain_byte cs) (plain-all (c ∷ cs) h) in
    ap is_hash_comment (spaced-first c cs ws).1 ∙ rw (plain-no_blank c plain.0) k

hash-none_bytes : (indented : Bool) (w : List ℕ) (ws : List (List ℕ)) → is_plain w ≡ true → begins_hash w ≡ false → is_hash_comment (bytes_of indented (w ∷ ws)) ≡ false
hash-none_bytes true w ws h k = hash-none w ws h k
hash-none_bytes false w ws h k = hash-none w ws h k

exclamation-none : (indented : Bool) (w : List ℕ) (ws : List (List ℕ)) → is_plain w ≡ true → (indented || not (is_exclamation w)) ≡ true → is_exclamation (bytes_of indented (w ∷ ws)) ≡ false
exclamation-none true w ws h k = refl
exclamation-none false [] ws h k = cc
exclamation-none false (c ∷ cs) ws h k = ap is_exclamation (spaced-first c cs ws).1 ∙ not-true (nat_eq c 33) k

indented-read : (indented : Bool) (w : List ℕ) (ws : List (List ℕ)) → is_plain w ≡ true → is_indented (bytes_of indented (w ∷ ws)) ≡ indented
indented-read true w ws h = refl
indented-read false [] ws h = cc
indented-read false (c ∷ cs) ws h = ap is_indented (spaced-first c cs ws).1 ∙ plain-no_blank c (both (is_plain_byte c) (list_all is_plain_byte cs) (plain-all (c ∷ cs) h)).0

words-of_bytes : (n : ℕ) (indented : Bool) (ws : List (List ℕ)) → list_all is_plain ws ≡ true → words_of n (bytes_of indented ws) ≡ map (plain_word n) ws
words-of_bytes n true ws h = words-read n ws h
words-of_bytes n false ws h = words-read n ws h

-- a line without a comment is what stands ahead of one
clear-uncommented : (kind : Comments) (indented : Bool) (w : List ℕ) (ws : List (List ℕ)) → list_all is_plain (w ∷ ws) ≡ true
    → is_clear kind (record { indented = indented; words = w ∷ ws }) ≡ true → uncommented kind (bytes_of indented (w ∷ ws)) ≡ bytes_of indented (w ∷ ws)
clear-uncommented HashLine indented w ws h k =
    let none = hash-none_bytes indented w ws (both (is_plain w) (list_all is_plain ws) h).0 (not-true (begins_hash w) k) in
    ap (λ b. cond b [] (bytes_of indented (w ∷ ws))) none
clear-uncommented Ios indented w ws h k =
    let none = exclamation-none indented w ws (both (is_plain w) (list_all is_plain ws) h).0 k in
    ap (λ b. cond b [] (bytes_of indented (w ∷ ws))) none
clear-uncommented Pf indented w ws h k = quiet-bytes Pf indented (w ∷ ws) (quiet-words_pf (w ∷ ws) h k)
clear-uncommented Ipfw indented w ws h k = quiet-bytes Ipfw indented (w ∷ ws) (quiet-words_ipfw (w ∷ ws) h k)

line-read : (kind : Comments) (n : ℕ) (indented : Bool) (ws : List (List ℕ)) → is_writable kind (record { indented = indented; words = ws }) ≡ true
    → read_line kind n (bytes_of indented ws) ≡ record { number = n; indented = indented; words = map (plain_word n) ws } ∷ []
line-read kind n indented [] h = cc
line-read kind n indented (w ∷ ws) h =
    let bytes = bytes_of indented (w ∷ ws) in
    let parts = both (nat_le 1 (length (w ∷ ws)) && list_all is_plain (w ∷ ws)) (is_clear kind (record { indented = indented; words = w ∷ ws })) h in
    let plain = both (nat_le 1 (length (w ∷ ws))) (list_all is_plain (w ∷ ws)) parts.0 in
    ap (λ u. line_of n (is_indented bytes) (words_of n u)) (clear-uncommented kind indented w ws plain.1 parts.1)
    ∙ ap (line_of n (is_indented bytes)) (words-of_bytes n indented (w ∷ ws) plain.1)
    ∙ ap (λ b. line_of n b (map (plain_word n) (w ∷ ws))) (indented-read indented w ws (both (is_plain w) (list_all is_plain ws) plain.1).0)

numbered-read : (kind : Comments) (n : ℕ) (ls : List Written) → list_all (is_writable kind) ls ≡ true → numbered kind n (map line_bytes ls) ≡ lines_written n ls
numbered-read kind n [] h = refl
numbered-read kind n (l ∷ ls) h =
    let parts = both (is_writable kind l) (list_all (is_writable kind) ls) h in
    rw (line-read kind n l.indented l.words parts.0, numbered-read kind (suc n) ls parts.1) refl

lines-one : (kind : Comments) (ls : List Written) → list_all (is_writable kind) ls ≡ true → list_all is_one_line (map line_bytes ls) ≡ true
lines-one kind [] h = refl
lines-one kind (l ∷ ls) h =
    let parts = both (is_writable kind l) (list_all (is_writable kind) ls) h in
    let some = both (nat_le 1 (length l.words) && list_all is_plain l.words) (is_clear kind l) parts.0 in
    let plain = (both (nat_le 1 (length l.words)) (list_all is_plain l.words) some.0).1 in
    let one = one_line-lacks (line_bytes l) (bytes-lacks 10 (omega arith) l.indented l.words plain) (bytes-lacks 13 (omega arith) l.indented l.words plain) in
    rw (one, lines-one kind ls parts.1) refl

pub texts-read : (kind : Comments) (ls : List Written) → list_all (is_writable kind) ls ≡ true
    → read_of kind (text_of ls) ≡ record { lines = lines_written 1 ls; past = suc (length ls) }
texts-read kind ls h =
    let lines = lines-read (map line_bytes ls) (lines-one kind ls h) in
    rw (lines, numbered-read kind 1 ls h, length-map ls line_bytes) refl
