-- A word that ends.
use Rattle.std.proofs.Common.{◌≡◌, ℕ, suc, ◌+◌, ◌-◌, ◌<◌, ◌≤◌, length, take, drop, get_or, drop-cons, add-one, ap, Bool, true, false, ◌||◌, ◌&&◌, not, nat_eq, List, [], ◌∷◌, ◌++◌, append_assoc, append-nil, refl, sym, ◌∙◌, true≢false, arith}
use Rattle.std.proofs.lemmas.Bool.Decides.{nat_tests}
use Rattle.std.proofs.lemmas.List.{drop-drop, length-drop, take_more, take_rest}
use Rattle.fws_num.specs.declared.word.Word.{Word}
use Rattle.fws_num.specs.Comments.{is_punctuation}
use Rattle.fws_num.specs.Words.{is_blank, plain_word, quoted_word}
use Rattle.fws_pf.specs.declared.statement.Mode.TheVariants.{Between, Plain, Quoted, Second}
use Rattle.fws_pf.specs.Statements.{begins_pair, words_from}
use Rattle.fws_pf_words.specs.declared.statements.WordReader.{WordReader}
use Rattle.fws_pf_words.specs.Ahead.{words_ahead}

pub plain_ended : (old new : WordReader) (c : ℕ) (rest : List ℕ) → old.mode ≡ Plain → is_blank c ≡ true
    → new.words.items ≡ old.words.items ++ plain_word old.line old.text ∷ [] → new.mode ≡ Between → new.text ≡ [] → new.line ≡ old.line
    → words_ahead new rest ≡ words_ahead old (c ∷ rest)
plain_ended old new c rest m b w n t l =
    rw (w, n, t, l, m, b) (append_assoc old.words.items (plain_word old.line old.text ∷ []) (words_from old.line Between [] rest))

pub quoted_ended : (old new : WordReader) (c : ℕ) (rest : List ℕ) → old.mode ≡ Quoted → c ≡ 34
    → new.words.items ≡ old.words.items ++ quoted_word old.line old.text ∷ [] → new.mode ≡ Between → new.text ≡ [] → new.line ≡ old.line
    → words_ahead new rest ≡ words_ahead old (c ∷ rest)
quoted_ended old new c rest m e w n t l =
    rw (w, n, t, l, m, e) (append_assoc old.words.items (quoted_word old.line old.text ∷ []) (words_from old.line Between [] rest))

pub pair_ended : (old new : WordReader) (a c : ℕ) (pair rest : List ℕ) → old.mode ≡ Second a → pair ≡ a ∷ c ∷ []
    → new.words.items ≡ old.words.items ++ plain_word old.line pair ∷ [] → new.mode ≡ Between → new.text ≡ [] → new.line ≡ old.line
    → words_ahead new rest ≡ words_ahead old (c ∷ rest)
pair_ended old new a c pair rest m e w n t l =
    rw (w, n, t, l, m, e) (append_assoc old.words.items (plain_word old.line (a ∷ c ∷ []) ∷ []) (words_from old.line Between [] rest))

pub mark_ended : (old new : WordReader) (c : ℕ) (mark rest : List ℕ) → old.mode ≡ Between → is_blank c ≡ false → nat_eq c 34 ≡ false
    → begins_pair c rest ≡ false → is_punctuation c ≡ true → mark ≡ c ∷ []
    → new.words.items ≡ old.words.items ++ plain_word old.line mark ∷ [] → new.mode ≡ Between → new.text ≡ [] → new.line ≡ old.line
    → words_ahead new rest ≡ words_ahead old (c ∷ rest)
mark_ended old new c mark rest m b q p s e w n t l =
    rw (w, n, t, l, m, b, q, p, s, e) (append_assoc old.words.items (plain_word old.line (c ∷ []) ∷ []) (words_from old.line Between [] rest))

-- a quote divides nothing
quote_divides : (rest : List ℕ) → (begins_pair 34 rest || is_punctuation 34) ≡ false
quote_divides [] = refl
quote_divides (d ∷ ds) = refl

no_quote : (b : Bool) (c : ℕ) (rest : List ℕ) → nat_eq c 34 ≡ b → (begins_pair c rest || is_punctuation c) ≡ true → nat_eq c 34 ≡ false
no_quote true c rest e h =
    let same : c ≡ 34 = grind (arith, nat_tests) in
    absurd (true≢false (sym (rw same at h) ∙ quote_divides rest))
no_quote false c rest e h = e

parted : (p s : Bool) (line : ℕ) (text : List ℕ) (c : ℕ) (cs : List ℕ) → is_blank c ≡ false → nat_eq c 34 ≡ false → begins_pair c cs ≡ p → is_punctuation c ≡ s
    → (p || s) ≡ true → words_from line Plain text (c ∷ cs) ≡ plain_word line text ∷ words_from line Between [] (c ∷ cs)
parted true s line text c cs b q e f h = rw (b, q, e) refl
parted false true line text c cs b q e f h = rw (b, q, e, f) refl
parted false false line text c cs b q e f h = absurd (true≢false (sym h))

-- a plain word ends ahead of a byte that divides, which is then read between two words
pub ended_ahead : (old mid new : WordReader) (c : ℕ) (rest : List ℕ) → old.mode ≡ Plain → is_blank c ≡ false → (begins_pair c rest || is_punctuation c) ≡ true
    → mid.words.items ≡ old.words.items ++ plain_word old.line old.text ∷ [] → mid.mode ≡ Between → mid.text ≡ [] → mid.line ≡ old.line
    → words_ahead new rest ≡ words_ahead mid (c ∷ rest) → words_ahead new rest ≡ words_ahead old (c ∷ rest)
ended_ahead old mid new c rest m b d w n t l h =
    let q = no_quote (nat_eq c 34) c rest refl d in
    let left = words_from old.line Between [] (c ∷ rest) in
    h ∙ (λ i. w i ++ words_from (l i) (n i) (t i) (c ∷ rest)) ∙ append_assoc old.words.items (plain_word old.line old.text ∷ []) left
    ∙ ap (λ ws. old.words.items ++ ws)
    (sym ((λ i. words_from old.line (m i) old.text (c ∷ rest)) ∙ parted (begins_pair c rest) (is_punctuation c) old.line old.text c rest b q refl refl d))

goes_on_by : (p q : Bool) (line : ℕ) (text : List ℕ) (c : ℕ) (cs : List ℕ) → is_blank c ≡ false → begins_pair c cs ≡ p → is_punctuation c ≡ q → (p || q) ≡ false
    → words_from line Plain text (c ∷ cs) ≡ words_from line Plain (text ++ c ∷ []) cs
goes_on_by false false line text c cs b e f h = rw (b, e, f) refl
goes_on_by true q line text c cs b e f h = absurd (true≢false h)
goes_on_by false true line text c cs b e f h = absurd (true≢false h)

-- a word without quotes goes on with a byte that neither is a blank nor divides
goes_on : (line : ℕ) (text : List ℕ) (c : ℕ) (cs : List ℕ) → is_blank c ≡ false → (begins_pair c cs || is_punctuation c) ≡ false
    → words_from line Plain text (c ∷ cs) ≡ words_from line Plain (text ++ c ∷ []) cs
goes_on line text c cs b h = goes_on_by (begins_pair c cs) (is_punctuation c) line text c cs b refl refl h

-- a byte that is no blank and divides nothing
pub plain_byte : (b d : Bool) → (not b && not d) ≡ true → (b ≡ false) × (d ≡ false)
plain_byte false false e = (refl, refl)
plain_byte false true e = absurd (true≢false (sym e))
plain_byte true d e = absurd (true≢false (sym e))

-- a word without quotes goes on with so many bytes
abbrev pub GoesOn : List ℕ → ℕ → Type 0
GoesOn bytes n = (line : ℕ) (text : List ℕ) → words_from line Plain text bytes ≡ words_from line Plain (text ++ take n bytes) (drop n bytes)

pub goes_on_none : (bytes : List ℕ) → GoesOn bytes 0
goes_on_none bytes line text = ap (λ (t : List ℕ). words_from line Plain t bytes) (sym (append-nil text))

pub goes_on_more : (bytes rest : List ℕ) (i : ℕ) → i < length bytes → rest ≡ drop (i + 1) bytes → is_blank (get_or bytes i 0) ≡ false
    → (begins_pair (get_or bytes i 0) rest || is_punctuation (get_or bytes i 0)) ≡ false → GoesOn bytes i → GoesOn bytes (i + 1)
goes_on_more bytes rest i lt r b h on line text =
    let c = get_or bytes i 0 in
    let so_far = text ++ take i bytes in
    on line text
    ∙ ap (words_from line Plain so_far) (drop-cons bytes i 0 lt ∙ ap (λ k. c ∷ drop k bytes) (sym (add-one i)) ∙ ap (λ cs. c ∷ cs) (sym r))
    ∙ goes_on line so_far c rest b h
    ∙ ap (λ t. words_from line Plain t rest) (append_assoc text (take i bytes) (c ∷ []) ∙ ap (λ t. text ++ t) (sym (take_more bytes i 0 lt)))
    ∙ ap (words_from line Plain (text ++ take (i + 1) bytes)) r

begun_by : (p q : Bool) (line : ℕ) (text : List ℕ) (c : ℕ) (cs : List ℕ) → is_blank c ≡ false → nat_eq c 34 ≡ false → begins_pair c cs ≡ p → is_punctuation c ≡ q
    → (p || q) ≡ false → words_from line Between text (c ∷ cs) ≡ words_from line Plain (c ∷ []) cs
begun_by false false line text c cs b q e f h = rw (b, q, e, f) refl
begun_by true s line text c cs b q e f h = absurd (true≢false h)
begun_by false true line text c cs b q e f h = absurd (true≢false h)

-- a word without quotes begins with so many bytes
abbrev pub Begins : List ℕ → ℕ → Type 0
Begins bytes n = (line : ℕ) (text : List ℕ) → words_from line Between text bytes ≡ words_from line Plain (take n bytes) (drop n bytes)

pub word_begins : (c : ℕ) (rest bytes : List ℕ) (n m : ℕ) → bytes ≡ c ∷ rest → nat_eq c 34 ≡ false
    → (not (is_blank c) && not (begins_pair c rest || is_punctuation c)) ≡ true → GoesOn rest n → m ≡ 1 + n → Begins bytes m
word_begins c rest bytes n m at quote plain on count line text =
    let parts = plain_byte (is_blank c) (begins_pair c rest || is_punctuation c) plain in
    let next : m ≡ suc n = omega (arith, count) in
    rw (at, next) (begun_by (begins_pair c rest) (is_punctuation c) line text c rest parts.0 quote refl refl parts.1 ∙ on line (c ∷ []))

pub all_begins : (bytes : List ℕ) (n : ℕ) (old new : WordReader) → old.mode ≡ Between → Begins bytes n → new ≡ record old { text = take n bytes; mode = Plain }
    → words_ahead new (drop n bytes) ≡ words_ahead old bytes
all_begins bytes n old new m on e = rw (e, m) (ap (λ ws. old.words.items ++ ws) (sym (on old.line old.text)))

pub all_go_on : (bytes : List ℕ) (n : ℕ) (old new : WordReader) → old.mode ≡ Plain → GoesOn bytes n → new ≡ record old { text = old.text ++ take n bytes }
    → words_ahead new (drop n bytes) ≡ words_ahead old bytes
all_go_on bytes n old new m on e = rw (e, m) (ap (λ ws. old.words.items ++ ws) (sym (on old.line old.text)))

-- the loop's step goes no further than the text
pub step_within : (bytes rest : List ℕ) (i n : ℕ) → i < length bytes → rest ≡ drop (i + 1) bytes → n ≤ length rest → i + 1 + n ≤ length bytes
step_within bytes rest i n lt r few =
    let left : length rest ≡ length bytes - (i + 1) = ap length r ∙ length-drop (i + 1) bytes in
    omega (arith, left, few, lt)

-- the loop's step behind a byte, at a stretch
pub stretch_read : (old new : WordReader) (bytes rest : List ℕ) (i n : ℕ) (all : List Word) → rest ≡ drop (i + 1) bytes
    → words_ahead new (drop n rest) ≡ words_ahead old rest → words_ahead old (drop (i + 1) bytes) ≡ all → words_ahead new (drop (i + 1 + n) bytes) ≡ all
stretch_read old new bytes rest i n all r e f =
    ap (words_ahead new) (sym (drop-drop n (i + 1) bytes) ∙ ap (drop n) (sym r)) ∙ e ∙ ap (words_ahead old) r ∙ f

-- the loop's step at a byte
pub byte_read : (old new : WordReader) (bytes : List ℕ) (i : ℕ) (all : List Word) → i < length bytes
    → words_ahead new (take (length bytes - (i + 1)) (drop (i + 1) bytes)) ≡ words_ahead old (get_or bytes i 0 ∷ take (length bytes - (i + 1)) (drop (i + 1) bytes))
    → words_ahead old (drop i bytes) ≡ all → words_ahead new (drop (i + 1) bytes) ≡ all
byte_read old new bytes i all h e f =
    ap (words_ahead new) (sym (take_rest bytes (i + 1))) ∙ e ∙ ap (λ cs. words_ahead old (get_or bytes i 0 ∷ cs)) (take_rest bytes (i + 1))
    ∙ ap (words_ahead old) (ap (λ k. get_or bytes i 0 ∷ drop k bytes) (add-one i) ∙ sym (drop-cons bytes i 0 h)) ∙ f
