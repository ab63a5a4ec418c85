-- Names of interfaces: they can be written, and lead to their entries.
use Rattle.std.proofs.Common.{◌≡◌, ℕ, ◌+◌, ◌-◌, ◌≤◌, true, false, cond, ◌&&◌, ◌||◌, not, nat_le, Some, None, option_map, ok_or, Ok, List, [], ◌∷◌, ◌++◌, length, codes, refl, ap, ◌∙◌, arith}
use Rattle.std.proofs.lemmas.Bool.{and_from, and_parts, and_right, or_from, cond_both, leb-true, not-true, not_from_false}
use Rattle.std.specs.List.{list_all, list_any, range_with_len}
use Rattle.std.specs.Option.{option_or}
use Rattle.std.specs.Str.{bytes_eq}
use Rattle.fws_num.specs.declared.word.Word.{Word}
use Rattle.fws_num.specs.Written.{is_plain, is_plain_byte}
use Rattle.fws_net.specs.declared.cause.Cause.TheVariants.{NoInterface}
use Rattle.fws_net.specs.declared.packet.Lang.TheVariants.{Pf}
use Rattle.fws_net.specs.declared.site.Site.{Site}
use Rattle.fws_net.specs.SiteWords.{is_name_byte}
use Rattle.fws_rules.specs.Literals.{one}
use Rattle.fws_rules.specs.Names.{interface_name, is_own_byte, AreNamed}
use Rattle.fws_pf.specs.declared.value_draft.Part.TheVariants as parts
use Rattle.fws_pf.specs.Statements.{is_mark}
use Rattle.fws_pf.specs.Values.{interface_part, is_any_mark, marks}
use Rattle.fws_pf_print.specs.PrintedText.{is_bare_name, name_word}
use Rattle.fws_pf_print.proofs.Basics.{all_weaker, at_number, implied, texts_differ}
use Rattle.fws_pf_print.proofs.LineWords.{bare, bare_at, is_inner, IsWord, quoted, quoted_at, word_at}

all_inner : list_all (λ c. not (is_own_byte c) || is_inner c) (range_with_len 45 78) ≡ true
all_inner = refl

-- bytes of names stand within words
own_inner : (c : ℕ) → is_own_byte c ≡ true → is_inner c ≡ true
own_inner c h =
    let bounds = and_parts (nat_le 45 c) (nat_le c 122) (and_parts (is_name_byte c) (nat_le 45 c && nat_le c 122) h).1 in
    let low : 45 ≤ c = leb-true 45 c bounds.0 in
    let high : c ≤ 122 = leb-true c 122 bounds.1 in
    implied (is_own_byte c) (is_inner c) h (at_number (λ c. not (is_own_byte c) || is_inner c) 45 78 c all_inner low (omega arith))

-- a name is written as a word, and read as its text
pub record IsName (text : List ℕ) : Type 0 where
  pub word : IsWord (name_word text)
  pub plain : list_all is_inner text ≡ true
  pub some : nat_le 1 (length text) ≡ true

pub name_known : (text : List ℕ) → is_plain text ≡ true → list_all is_own_byte text ≡ true → IsName text
name_known text h own =
    let some = (and_parts (nat_le 1 (length text)) (list_all is_plain_byte text) h).0 in
    let bytes = all_weaker is_own_byte is_inner own_inner text own in
    record {
      word = cond_both (is_bare_name text) text (34 ∷ text ++ 34 ∷ []) IsWord (λ e. bare (and_from (nat_le 1 (length text)) (list_all is_inner text) some bytes)) (λ e. quoted text bytes);
      plain = bytes;
      some = some;
    }

-- the word that is read of a name
pub record IsNamed (n : ℕ) (text : List ℕ) : Type 0 where
  pub text_is : (word_at n (name_word text)).text ≡ text
  pub unmarked : is_any_mark (word_at n (name_word text)) ≡ false

no_marks : (w : Word) → list_all (λ mark. not (bytes_eq w.text mark)) marks ≡ true → is_any_mark w ≡ false
no_marks w h = rows marks h
  where
    rows : (ms : List (List ℕ)) → list_all (λ mark. not (bytes_eq w.text mark)) ms ≡ true → list_any (is_mark w) ms ≡ false
    rows [] h = refl
    rows (m ∷ ms) h =
        let parts = and_parts (not (bytes_eq w.text m)) (list_all (λ mark. not (bytes_eq w.text mark)) ms) h in
        or_from (is_mark w m) (list_any (is_mark w) ms) (and_right (not w.quoted) (bytes_eq w.text m) (not-true (bytes_eq w.text m) parts.0)) (rows ms parts.1)

-- no mark is made of bytes of words
inner_no_mark : (text : List ℕ) → list_all is_inner text ≡ true → (ms : List (List ℕ)) → list_all (λ m. not (list_all is_inner m)) ms ≡ true → list_all (λ mark. not (bytes_eq text mark)) ms ≡ true
inner_no_mark text h [] k = refl
inner_no_mark text h (m ∷ ms) k =
    let parts = and_parts (not (list_all is_inner m)) (list_all (λ m. not (list_all is_inner m)) ms) k in
    and_from (not (bytes_eq text m)) (list_all (λ mark. not (bytes_eq text mark)) ms)
    (not_from_false (bytes_eq text m) (texts_differ is_inner text m h (not-true (list_all is_inner m) parts.0))) (inner_no_mark text h ms parts.1)

-- a word of such bytes is no punctuation
pub unmarked : (w : Word) → list_all is_inner w.text ≡ true → is_any_mark w ≡ false
unmarked w h = no_marks w (inner_no_mark w.text h marks refl)

pub name_read : (n : ℕ) (text : List ℕ) → is_plain text ≡ true → list_all is_own_byte text ≡ true → IsNamed n text
name_read n text h own =
    let is = name_known text h own in
    let same : (word_at n (name_word text)).text ≡ text = cond_both (is_bare_name text) text (34 ∷ text ++ 34 ∷ []) (λ (w : List ℕ). (word_at n w).text ≡ text)
    (λ e. ap (λ (w : Word). w.text) (bare_at n text (and_from (nat_le 1 (length text)) (list_all is_inner text) is.some is.plain)))
    (λ e. ap (λ (w : Word). w.text) (quoted_at n text)) in
    record { text_is = same; unmarked = unmarked (word_at n (name_word text)) (ap (list_all is_inner) same ∙ is.plain) }

pub interface_named : (site : Site) → AreNamed Pf site → (n : ℕ) → 1 ≤ n → n ≤ length site.faces + 1 → interface_part site (interface_name Pf site n) ≡ Ok (parts.Set (one n n))
interface_named site named n low high =
    let text = interface_name Pf site n in
    ap (λ o. ok_or (option_map (λ entry. parts.Set (one entry entry)) (option_or o (cond (bytes_eq text (codes "lo")) (Some 1) None))) NoInterface) (named.leads n low high)
