-- Names of translation lists.
use Rattle.std.proofs.Common.{◌≡◌, ◌≢◌, ℕ, ◌<◌, ◌≤◌, ◌^◌, true, false, ◌||◌, nat_eq, List, [], ◌∷◌, refl, sym, ◌∙◌, ap, arith, length, drop}
use Rattle.std.proofs.lemmas.Bool.{and_from, and_parts, false_from_ne_true, le-leb}
use Rattle.std.proofs.lemmas.Bool.Decides.{nat_tests}
use Rattle.std.proofs.lemmas.Option.{same_Some}
use Rattle.std.proofs.lemmas.Slice.Eq.{bytes_eq-Decides}
use Rattle.std.specs.List.{list_all}
use Rattle.std.specs.Str.{bytes_eq}
use Rattle.fws_ios_print.specs.Printable.{is_list_name}
use Rattle.fws_ios_put_sources.specs.Lists.{list_name}
use Rattle.fws_num.specs.Numbers.{dotted, is_digit, quad_of, AddressesAreDotted, QuadsAreDotted}
use Rattle.fws_num.specs.Written.{is_plain_byte}

dotted_byte : (c : ℕ) → (is_digit c || nat_eq c 46) ≡ true → is_plain_byte c ≡ true
dotted_byte c h = grind (arith, nat_tests)

all_plain : (text : List ℕ) → list_all (λ c. is_digit c || nat_eq c 46) text ≡ true → list_all is_plain_byte text ≡ true
all_plain [] h = refl
all_plain (c ∷ cs) h =
    let parts = and_parts (is_digit c || nat_eq c 46) (list_all (λ d. is_digit d || nat_eq d 46) cs) h in
    and_from (is_plain_byte c) (list_all is_plain_byte cs) (dotted_byte c parts.0) (all_plain cs parts.1)

named_by : (text : List ℕ) → list_all is_plain_byte text ≡ true → is_list_name (78 ∷ 65 ∷ 84 ∷ 45 ∷ text) ≡ true
named_by text h =
    let least : 1 ≤ length (78 ∷ 65 ∷ 84 ∷ 45 ∷ text) = omega arith in
    and_from _ _ (and_from _ _ (and_from _ _ (le-leb 1 (length (78 ∷ 65 ∷ 84 ∷ 45 ∷ text)) least) h) refl) refl

-- it is a name of a list
pub name_printed : AddressesAreDotted → (a : ℕ) → is_list_name (list_name a) ≡ true
name_printed law a = named_by (dotted a) (all_plain (dotted a) (law a).0)

behind : (x y : List ℕ) → 78 ∷ 65 ∷ 84 ∷ 45 ∷ x ≡ 78 ∷ 65 ∷ 84 ∷ 45 ∷ y → x ≡ y
behind x y e = ap (λ l. drop 4 l) e

-- different addresses give different names
pub names_differ : QuadsAreDotted → (a b : ℕ) → a < 2 ^ 32 → b < 2 ^ 32 → a ≢ b → bytes_eq (list_name a) (list_name b) ≡ false
names_differ law a b la lb ne =
    false_from_ne_true (bytes_eq (list_name a) (list_name b)) (λ e.
    let same : dotted a ≡ dotted b = behind (dotted a) (dotted b) ((bytes_eq-Decides (list_name a) (list_name b)).0 e) in
    ne (same_Some a b (sym (law.0 a la) ∙ ap quad_of same ∙ law.0 b lb)))
