-- Names of lists: they differ, can be printed, and aren't those of translation lists.
use Rattle.std.proofs.Common.{◌≡◌, ℕ, ◌+◌, ◌≤◌, Bool, true, false, cond, ◌&&◌, not, nat_eq, Some, List, [], ◌∷◌, ◌++◌, length, drop, refl, sym, ap, ◌∙◌, arith}
use Rattle.std.proofs.lemmas.Bool.{and_from, and_parts, eqb-true, false≢true, le-leb}
use Rattle.std.proofs.lemmas.List.Folds.{list_all-append}
use Rattle.std.specs.List.{list_all}
use Rattle.std.specs.Prelude.{nat_le, codes}
use Rattle.std.specs.Str.{bytes_eq}
use Rattle.fws_num.specs.Written.{is_plain, is_plain_byte}
use Rattle.fws_net.specs.declared.site.Site.{Site}
use Rattle.fws_net.specs.SiteWords.{is_name_byte}
use Rattle.fws_net.specs.Faces.{entry_named}
use Rattle.fws_net.specs.declared.packet.Lang.TheVariants.{Ios}
use Rattle.fws_rules.specs.Names.{interface_name, is_own_byte, AreNamed}
use Rattle.fws_ios.specs.Values.{is_number as are_digits}
use Rattle.fws_ios_print.specs.Printable.{is_list_name, state_name}
use Rattle.fws_ios_put.specs.Layout.{ending, has_followers, list_name}

-- the bytes ahead of the first plus
before_plus : List ℕ → List ℕ
before_plus [] = []
before_plus (c ∷ cs) = cond (nat_eq c 43) [] (c ∷ before_plus cs)

-- a byte of a name isn't a plus
not_plus : (c : ℕ) → is_name_byte c ≡ true → nat_eq c 43 ≡ false
not_plus c h = by (nat_eq c 43) refl where
  by : (b : Bool) → nat_eq c 43 ≡ b → nat_eq c 43 ≡ false
  by false is = is
  by true is = absurd (false≢true (sym (ap is_name_byte (eqb-true c 43 is)) ∙ h))

front_is : (shared : Bool) (text : List ℕ) → list_all is_name_byte text ≡ true → before_plus (text ++ ending shared) ≡ text
unfolding before_plus
front_is true [] h = refl
front_is false [] h = refl
front_is shared (c ∷ cs) h =
    let both = and_parts (is_name_byte c) (list_all is_name_byte cs) h in
    ap (λ (b : Bool). cond b [] (c ∷ before_plus (cs ++ ending shared))) (not_plus c both.0) ∙ ap (λ (l : List ℕ). c ∷ l) (front_is shared cs both.1)

-- behind the five bytes that all names begin with
behind : (text : List ℕ) (shared : Bool) → drop 5 (codes "FROM-" ++ text ++ ending shared) ≡ text ++ ending shared
behind text shared = refl

own_bytes : (text : List ℕ) → list_all is_own_byte text ≡ true → list_all is_name_byte text ≡ true
own_bytes [] h = refl
own_bytes (c ∷ cs) h =
    let both = and_parts (is_own_byte c) (list_all is_own_byte cs) h in
    and_from (is_name_byte c) (list_all is_name_byte cs) (and_parts (is_name_byte c) (nat_le 45 c && nat_le c 122) both.0).0 (own_bytes cs both.1)

-- entries whose interfaces have one name are equal
one_entry : (site : Site) → AreNamed Ios site → (m n : ℕ) → 1 ≤ m → m ≤ length site.faces + 1 → 1 ≤ n → n ≤ length site.faces + 1
    → interface_name Ios site m ≡ interface_name Ios site n → m ≡ n
one_entry site named m n low high low_n high_n same = some_is (sym (named.leads m low high) ∙ ap (entry_named Ios site) same ∙ named.leads n low_n high_n) where
  some_is : {a b : ℕ} → Some a ≡ Some b → a ≡ b
  some_is h = cc

pub one_name : (site : Site) → AreNamed Ios site → (leaders : List ℕ) (m n : ℕ) → 1 ≤ m → m ≤ length site.faces + 1 → 1 ≤ n → n ≤ length site.faces + 1
    → list_name site leaders m ≡ list_name site leaders n → m ≡ n
one_name site named leaders m n low high low_n high_n same =
    one_entry site named m n low high low_n high_n (
    sym (front_is (has_followers leaders m) (interface_name Ios site m) (own_bytes (interface_name Ios site m) (named.bytes m low high)))
    ∙ ap (λ (l : List ℕ). before_plus (drop 5 l)) same
    ∙ front_is (has_followers leaders n) (interface_name Ios site n) (own_bytes (interface_name Ios site n) (named.bytes n low_n high_n)))

plain_ending : (shared : Bool) → list_all is_plain_byte (ending shared) ≡ true
plain_ending true = refl
plain_ending false = refl

-- the name can be that of a list
pub good_name : (site : Site) → AreNamed Ios site → (leaders : List ℕ) (entry : ℕ) → 1 ≤ entry → entry ≤ length site.faces + 1 → is_list_name (list_name site leaders entry) ≡ true
good_name site named leaders entry low high =
    let text = interface_name Ios site entry in
    let end = ending (has_followers leaders entry) in
    let plain = and_parts (nat_le 1 (length text)) (list_all is_plain_byte text) (named.plain entry low high) in
    and_from (is_plain (codes "FROM-" ++ text ++ end) && not (are_digits (codes "FROM-" ++ text ++ end))) (not (bytes_eq (codes "FROM-" ++ text ++ end) state_name))
    (and_from (is_plain (codes "FROM-" ++ text ++ end)) (not (are_digits (codes "FROM-" ++ text ++ end)))
    (and_from (nat_le 1 (length (codes "FROM-" ++ text ++ end))) (list_all is_plain_byte (codes "FROM-" ++ text ++ end)) (some_length (text ++ end))
    (list_all-append is_plain_byte text end ∙ and_from (list_all is_plain_byte text) (list_all is_plain_byte end) plain.1 (plain_ending (has_followers leaders entry))))
    refl)
    refl where
      some_length : (l : List ℕ) → nat_le 1 (length (70 ∷ 82 ∷ 79 ∷ 77 ∷ 45 ∷ l)) ≡ true
      some_length l = le-leb 1 (length (70 ∷ 82 ∷ 79 ∷ 77 ∷ 45 ∷ l)) (omega arith)
