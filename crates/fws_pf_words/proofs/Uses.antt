-- Macros by their names, and their uses.
use Rattle.std.proofs.Common.{◌≡◌, ℕ, suc, ◌<◌, ◌≤◌, Bool, true, false, cond, nat_eq, Option, None, Some, Result, Ok, Err, List, [], ◌∷◌, ◌++◌, length, map, find, refl, sym, ap, ◌∙◌, append_assoc, arith}
use Rattle.std.proofs.lemmas.List.{append-nil}
use Rattle.std.specs.Map.{lookup}
use Rattle.std.specs.Option.{ok_or, option_map}
use Rattle.std.specs.Str.{bytes_eq}
use Rattle.indexmap.specs.IndexMap.{insert_entry}
use Rattle.fws_num.specs.declared.word.Word.{Word}
use Rattle.fws_num.specs.Words.{plain_word}
use Rattle.fws_net.specs.declared.cause.Cause.{Cause}
use Rattle.fws_net.specs.declared.cause.Cause.TheVariants.{NoName}
use Rattle.fws_net.specs.Reading.{and_then}
use Rattle.fws_pf.specs.declared.macros.Macro.{Macro}
use Rattle.fws_pf.specs.Macros.{is_name_byte, joined_last, meant_from, value_of, with_behind, with_macro}
use Rattle.fws_pf_words.specs.Uses.{all_but_last, alone_words, behind_name, further, further_use, joined_words, last_joined, macro_of, name_ahead, words_named, words_or_none}

-- The map

put_entry : (b : Bool) (e : List ℕ × List Word) (words : List Word) (es inserted : List (List ℕ × List Word)) (put : List Macro) → map macro_of inserted ≡ put
    → map macro_of (cond b ((e.0, words) ∷ es) (e ∷ inserted)) ≡ cond b (record { name = e.0; words = words } ∷ map macro_of es) (macro_of e ∷ put)
put_entry true e words es inserted put h = refl
put_entry false e words es inserted put h = ap (λ ms. macro_of e ∷ ms) h

pub entries_put : (name : List ℕ) (words : List Word) (es : List (List ℕ × List Word))
    → map macro_of (insert_entry bytes_eq es name words) ≡ with_macro name words (map macro_of es)
entries_put name words [] = refl
entries_put name words (e ∷ es) =
    put_entry (bytes_eq name e.0) e words es (insert_entry bytes_eq es name words) (with_macro name words (map macro_of es)) (entries_put name words es)

pub macro_put : (name : List ℕ) (words : List Word) (es new : List (List ℕ × List Word)) (macros : List Macro) → map macro_of es ≡ macros
    → new ≡ insert_entry bytes_eq es name words → map macro_of new ≡ with_macro name words macros
macro_put name words es new macros view h = ap (map macro_of) h ∙ entries_put name words es ∙ ap (with_macro name words) view

found_entry : (b : Bool) (e : List ℕ × List Word) (o : Option (List Word)) (m : Option Macro) → o ≡ option_map (λ n. n.words) m
    → cond b (Some e.1) o ≡ option_map (λ n. n.words) (cond b (Some (macro_of e)) m)
found_entry true e o m h = refl
found_entry false e o m h = h

looked_up : (name : List ℕ) (es : List (List ℕ × List Word)) → lookup (bytes_eq name) es ≡ option_map (λ m. m.words) (find (λ m. bytes_eq name m.name) (map macro_of es))
looked_up name [] = refl
looked_up name (e ∷ es) =
    found_entry (bytes_eq name e.0) e (lookup (bytes_eq name) es) (find (λ m. bytes_eq name m.name) (map macro_of es)) (looked_up name es)

abbrev pub value_or : Option (List Word) → Result (List Word) Cause
value_or None = Err NoName
value_or (Some words) = Ok words

value_found : (o : Option Macro) → value_or (option_map (λ m. m.words) o) ≡ ok_or (option_map (λ m. m.words) o) NoName
value_found None = refl
value_found (Some m) = refl

pub value_looked_up : (name : List ℕ) (es : List (List ℕ × List Word)) (macros : List Macro) (o : Option (List Word)) → map macro_of es ≡ macros
    → o ≡ lookup (bytes_eq name) es → value_of macros name ≡ value_or o
value_looked_up name es macros o view h =
    sym (ap value_or (h ∙ looked_up name es ∙ ap (λ ms. option_map (λ m. m.words) (find (λ m. bytes_eq name m.name) ms)) view)
    ∙ value_found (find (λ m. bytes_eq name m.name) macros))

-- Uses

-- what a use means by the words of its macro and the text behind its name
abbrev use_of : List Macro → ℕ → Result (List Word) Cause → List ℕ → Result (List Word) Cause
use_of macros line value [] = value
use_of macros line value (c ∷ cs) =
    and_then value (λ words. with_behind words (c ∷ cs) (cond (nat_eq c 36) (meant_from macros line [] cs) (Ok (plain_word line (c ∷ cs) ∷ []))))

at_byte : (b : Bool) (macros : List Macro) (line : ℕ) (name : List ℕ) (c : ℕ) (cs : List ℕ) → is_name_byte c ≡ b
    → meant_from macros line (name ++ c ∷ []) cs ≡ use_of macros line (value_of macros ((name ++ c ∷ []) ++ name_ahead cs)) (behind_name cs)
    → meant_from macros line name (c ∷ cs) ≡ use_of macros line (value_of macros (name ++ name_ahead (c ∷ cs))) (behind_name (c ∷ cs))
at_byte true macros line name c cs e h =
    rw e (h ∙ ap (λ n. use_of macros line (value_of macros n) (behind_name cs)) (append_assoc name (c ∷ []) (name_ahead cs)))
at_byte false macros line name c cs e h = rw e (ap (λ n. use_of macros line (value_of macros n) (c ∷ cs)) (sym (append-nil name)))

name_split : (macros : List Macro) (line : ℕ) (name text : List ℕ) → meant_from macros line name text ≡ use_of macros line (value_of macros (name ++ name_ahead text)) (behind_name text)
name_split macros line name [] = ap (value_of macros) (sym (append-nil name))
name_split macros line name (c ∷ cs) = at_byte (is_name_byte c) macros line name c cs refl (name_split macros line (name ++ c ∷ []) cs)

joined_nothing : (w : Word) (ws : List Word) → joined_last w ws [] ≡ w ∷ ws
joined_nothing w [] = ap (λ t. record w { text = t } ∷ []) (append-nil w.text)
joined_nothing w (v ∷ ws) = ap (λ l. w ∷ l) (joined_nothing v ws)

joined_use : (macros : List Macro) (line : ℕ) (w : Word) (ws : List Word) (behind : List ℕ) → use_of macros line (Ok (w ∷ ws)) behind ≡ Ok (joined_words (w ∷ ws) behind)
joined_use macros line w ws [] = ap (λ l. Ok l) (sym (joined_nothing w ws))
joined_use macros line w ws (c ∷ cs) = refl

some_use : (macros : List Macro) (line : ℕ) (ws : List Word) (behind : List ℕ) → (ws ≡ [] → ⊥) → use_of macros line (Ok ws) behind ≡ Ok (joined_words ws behind)
some_use macros line [] behind h = absurd (h refl)
some_use macros line (w ∷ ws) behind h = joined_use macros line w ws behind

none_use : (b : Bool) (macros : List Macro) (line c : ℕ) (cs : List ℕ) → nat_eq c 36 ≡ b → cond b (Some cs) None ≡ None → use_of macros line (Ok []) (c ∷ cs) ≡ Ok (alone_words line (c ∷ cs))
none_use true macros line c cs e h = absurd (let k : Some cs ≡ None = h in cc)
none_use false macros line c cs e h = rw e refl

alone_use : (macros : List Macro) (line : ℕ) (behind : List ℕ) → further (Ok []) behind ≡ None → use_of macros line (Ok []) behind ≡ Ok (alone_words line behind)
alone_use macros line [] h = refl
alone_use macros line (c ∷ cs) h = none_use (nat_eq c 36) macros line c cs refl h

-- the last use of a word
pub unknown_last : (macros : List Macro) (line : ℕ) (text name behind : List ℕ) → name ≡ name_ahead text → value_of macros name ≡ Err NoName
    → meant_from macros line [] text ≡ Err NoName
unknown_last macros line text name behind e v =
    name_split macros line [] text ∙ ap (λ r. use_of macros line r (behind_name text)) (ap (value_of macros) (sym e) ∙ v) ∙ no_use macros line (behind_name text)
  where
    no_use : (macros : List Macro) (line : ℕ) (behind : List ℕ) → use_of macros line (Err NoName) behind ≡ Err NoName
    no_use macros line [] = refl
    no_use macros line (c ∷ cs) = refl

pub joined_last_use : (macros : List Macro) (line : ℕ) (text name behind : List ℕ) (ws joined : List Word) → name ≡ name_ahead text → behind ≡ behind_name text
    → value_of macros name ≡ Ok ws → (ws ≡ [] → ⊥) → joined ≡ joined_words ws behind → meant_from macros line [] text ≡ Ok joined
joined_last_use macros line text name behind ws joined e b v some j =
    name_split macros line [] text ∙ ap (λ r. use_of macros line r (behind_name text)) (ap (value_of macros) (sym e) ∙ v)
    ∙ some_use macros line ws (behind_name text) some ∙ sym (ap (λ l. Ok l) (j ∙ ap (joined_words ws) b))

pub alone_last : (macros : List Macro) (line : ℕ) (text name behind : List ℕ) (ws alone : List Word) → further_use macros text ≡ None → name ≡ name_ahead text
    → behind ≡ behind_name text → value_of macros name ≡ Ok ws → ws ≡ [] → alone ≡ alone_words line behind → meant_from macros line [] text ≡ Ok alone
alone_last macros line text name behind ws alone f e b v none j =
    let value : value_of macros (name_ahead text) ≡ Ok [] = ap (value_of macros) (sym e) ∙ v ∙ ap (λ l. Ok l) none in
    name_split macros line [] text ∙ ap (λ r. use_of macros line r (behind_name text)) value
    ∙ alone_use macros line (behind_name text) (ap (λ r. further r (behind_name text)) (sym value) ∙ f) ∙ sym (ap (λ l. Ok l) (j ∙ ap (alone_words line) b))

-- a further use
further_is : (b : Bool) (macros : List Macro) (line c : ℕ) (cs rest : List ℕ) → nat_eq c 36 ≡ b → cond b (Some cs) None ≡ Some rest
    → (use_of macros line (Ok []) (c ∷ cs) ≡ meant_from macros line [] rest) × (rest ≡ cs)
further_is true macros line c cs rest e h =
    let same : cs ≡ rest = cc in
    (rw e (ap (meant_from macros line []) same), sym same)
further_is false macros line c cs rest e h = absurd (let k : None ≡ Some rest = h in cc)

further_at : (macros : List Macro) (line : ℕ) (value : Result (List Word) Cause) (behind rest : List ℕ) → further value behind ≡ Some rest
    → (use_of macros line value behind ≡ meant_from macros line [] rest) × (length rest < length behind)
further_at macros line (Ok []) [] rest h = absurd (let k : None ≡ Some rest = h in cc)
further_at macros line (Ok []) (c ∷ cs) rest h =
    let both = further_is (nat_eq c 36) macros line c cs rest refl h in
    (both.0, omega (arith, ap length both.1))
further_at macros line (Ok (w ∷ ws)) behind rest h = absurd (let k : None ≡ Some rest = h in cc)
further_at macros line (Err cause) behind rest h = absurd (let k : None ≡ Some rest = h in cc)

behind_shorter : (b : Bool) (c : ℕ) (cs : List ℕ) (n : ℕ) → length (behind_name cs) ≤ n → length cs ≡ n → length (cond b (behind_name cs) (c ∷ cs)) ≤ suc n
behind_shorter true c cs n h e = omega arith
behind_shorter false c cs n h e = omega arith

behind_short : (text : List ℕ) → length (behind_name text) ≤ length text
behind_short [] = omega arith
behind_short (c ∷ cs) = behind_shorter (is_name_byte c) c cs (length cs) (behind_short cs) refl

pub goes_on : (macros : List Macro) (line : ℕ) (text rest : List ℕ) → further_use macros text ≡ Some rest → meant_from macros line [] text ≡ meant_from macros line [] rest
goes_on macros line text rest h =
    name_split macros line [] text ∙ (further_at macros line (value_of macros (name_ahead text)) (behind_name text) rest h).0

pub goes_shorter : (macros : List Macro) (text rest : List ℕ) → further_use macros text ≡ Some rest → length rest < length text
goes_shorter macros text rest h =
    let less = (further_at macros 0 (value_of macros (name_ahead text)) (behind_name text) rest h).1 in
    let short = behind_short text in omega arith

-- Joined words

pub joined_front : (front : List Word) (last : Word) (text : List ℕ) → joined_words (front ++ last ∷ []) text ≡ front ++ record last { text = last.text ++ text } ∷ []
joined_front [] last text = refl
joined_front (f ∷ []) last text = refl
joined_front (f ∷ g ∷ fs) last text = ap (λ l. f ∷ l) (joined_front (g ∷ fs) last text)

pub joined_as : (words front joined new : List Word) (last word : Word) (text put : List ℕ) → words ≡ front ++ last ∷ [] → joined ≡ front → word ≡ last
    → put ≡ word.text ++ text → new ≡ joined ++ record word { text = put } ∷ [] → new ≡ joined_words words text
joined_as words front joined new last word text put a f w p h =
    h ∙ (λ i. f i ++ record (w i) { text = (p ∙ ap (λ v. v.text ++ text) w) i } ∷ []) ∙ sym (joined_front front last text) ∙ ap (λ ws. joined_words ws text) (sym a)

-- Words without the last one

front_of : (front : List Word) (last : Word) → all_but_last (front ++ last ∷ []) ≡ front
front_of [] last = refl
front_of (f ∷ []) last = refl
front_of (f ∷ g ∷ fs) last = ap (λ l. f ∷ l) (front_of (g ∷ fs) last)

last_of : (front : List Word) (last : Word) (text : List ℕ) → last_joined (front ++ last ∷ []) text ≡ record last { text = last.text ++ text } ∷ []
last_of [] last text = refl
last_of (f ∷ []) last text = refl
last_of (f ∷ g ∷ fs) last text = last_of (g ∷ fs) last text

pub front_is : (words front : List Word) (last : Word) → words ≡ front ++ last ∷ [] → front ≡ all_but_last words
front_is words front last e = sym (ap all_but_last e ∙ front_of front last)

pub split_joined : (words front : List Word) (last : Word) → words ≡ front ++ last ∷ [] → (text : List ℕ) → joined_words words text ≡ front ++ last_joined words text
split_joined words front last e text =
    ap (λ l. joined_words l text) e ∙ joined_front front last text ∙ ap (λ l. front ++ l) (sym (ap (λ l. last_joined l text) e ∙ last_of front last text))

pub last_as : (words front new : List Word) (last word : Word) (text put : List ℕ) → words ≡ front ++ last ∷ [] → word ≡ last → put ≡ word.text ++ text
    → new ≡ record word { text = put } ∷ [] → new ≡ last_joined words text
last_as words front new last word text put e w p n =
    n ∙ (λ i. record (w i) { text = (p ∙ ap (λ v. v.text ++ text) w) i } ∷ []) ∙ sym (ap (λ l. last_joined l text) e ∙ last_of front last text)

pub nothing_joined : (words : List Word) → joined_words words [] ≡ words
nothing_joined [] = refl
nothing_joined (w ∷ ws) = joined_nothing w ws

with_named : (macros : List Macro) (line : ℕ) (behind : List ℕ) (r : Result (List Word) Cause) → 1 ≤ length (words_or_none r)
    → use_of macros line r behind ≡ Ok (joined_words (words_or_none r) behind)
with_named macros line behind (Ok []) h = absurd (omega arith)
with_named macros line behind (Ok (w ∷ ws)) h = joined_use macros line w ws behind
with_named macros line behind (Err cause) h = absurd (omega arith)

pub named_use : (macros : List Macro) (text name : List ℕ) (shown : List Word) → name ≡ name_ahead text → shown ≡ words_named macros name → 1 ≤ length shown
    → (line : ℕ) → meant_from macros line [] text ≡ Ok (joined_words (words_named macros (name_ahead text)) (behind_name text))
named_use macros text name shown e s h line =
    let some : 1 ≤ length (words_named macros (name_ahead text)) = let k = ap length (s ∙ ap (words_named macros) e) in omega arith in
    name_split macros line [] text ∙ with_named macros line (behind_name text) (value_of macros (name_ahead text)) some
