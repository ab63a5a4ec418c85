-- Names of chains.
use Rattle.std.proofs.Common.{◌≡◌, ℕ, ◌≤◌, true, ◌&&◌, ◌||◌, List, [], ◌∷◌, ◌++◌, length, refl, sym, ◌∙◌, subst, arith, length-append}
use Rattle.std.proofs.lemmas.Bool.{and_from, and_parts, or_left, or_right, le-leb}
use Rattle.std.proofs.lemmas.List.Folds.{list_all-append}
use Rattle.std.specs.List.{list_all}
use Rattle.std.specs.Prelude.{nat_le, nat_eq}
use Rattle.fws_num.specs.Numbers.{is_digit}
use Rattle.fws_ipt_print.specs.Printable.{begins_with_letter, is_chain_name, is_name_byte}
use Rattle.fws_ipt_put_chains.specs.Blocks.{IsNamePart}

digits_plain : (digits : List ℕ) → list_all is_digit digits ≡ true → list_all is_name_byte digits ≡ true
digits_plain [] h = refl
digits_plain (d ∷ digits) h =
    let parts = and_parts (is_digit d) (list_all is_digit digits) h in
    and_from (is_name_byte d) (list_all is_name_byte digits)
    (or_left ((nat_le 97 d && nat_le d 122) || (nat_le 48 d && nat_le d 57)) (nat_eq d 45) (or_right (nat_le 97 d && nat_le d 122) (nat_le 48 d && nat_le d 57) parts.0))
    (digits_plain digits parts.1)

begins : (front a b c d : List ℕ) → begins_with_letter front ≡ true → begins_with_letter ((((front ++ a) ++ b) ++ c) ++ d) ≡ true
begins [] a b c d h = absurd (cc)
begins (x ∷ front) a b c d h = h

all_both : (xs ys : List ℕ) → list_all is_name_byte xs ≡ true → list_all is_name_byte ys ≡ true → list_all is_name_byte (xs ++ ys) ≡ true
all_both xs ys a b = list_all-append is_name_byte xs ys ∙ and_from (list_all is_name_byte xs) (list_all is_name_byte ys) a b

-- a name of a front, a word and a number
pub plain_name : (front word digits name : List ℕ) → name ≡ (((front ++ 45 ∷ []) ++ word) ++ 45 ∷ []) ++ digits → is_chain_name front ≡ true → length front ≤ 8 → IsNamePart word
    → list_all is_digit digits ≡ true → length digits ≤ 10 → is_chain_name name ≡ true
plain_name front word digits name is plain short part digit few =
    let dash : List ℕ = 45 ∷ [] in
    let p = and_parts (begins_with_letter front && list_all is_name_byte front) (nat_le (length front) 28) plain in
    let q = and_parts (begins_with_letter front) (list_all is_name_byte front) p.0 in
    let l1 = length-append front dash in
    let l2 = length-append (front ++ dash) word in
    let l3 = length-append ((front ++ dash) ++ word) dash in
    let l4 = length-append (((front ++ dash) ++ word) ++ dash) digits in
    let low = part.short in
    let whole : List ℕ = (((front ++ dash) ++ word) ++ dash) ++ digits in
    let le : length whole ≤ 28 = omega (arith, l1, l2, l3, l4, low, short, few) in
    subst (λ n. is_chain_name n ≡ true) (sym is)
    (and_from (begins_with_letter whole && list_all is_name_byte whole) (nat_le (length whole) 28)
    (and_from (begins_with_letter whole) (list_all is_name_byte whole) (begins front dash word dash digits q.0)
    (all_both (((front ++ dash) ++ word) ++ dash) digits (all_both ((front ++ dash) ++ word) dash (all_both (front ++ dash) word (all_both front dash q.1 refl) part.plain) refl) (digits_plain digits digit)))
    (le-leb (length whole) 28 le))
