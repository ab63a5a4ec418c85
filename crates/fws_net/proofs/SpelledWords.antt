-- The words of a site's text are plain, and are read as what they spell.
use Rattle.std.proofs.Common.{◌≡◌, ℕ, suc, ◌+◌, ◌-◌, ◌%◌, ◌^◌, ◌<◌, ◌≤◌, Bool, true, false, cond, ◌&&◌, ◌||◌, not, nat_eq, nat_le, Option, Some, None, Result, Ok, Err, List, [], ◌∷◌, ◌++◌, length, length-append, codes, decimal, ok_or, option_and_then, option_map, refl, ap, ◌∙◌, inl, inr, if◌then◌else◌, arith}
use Rattle.std.proofs.lemmas.Bool.{and_from, and_parts, or_cases, leb-true, eqb-true, le-leb, ne_eqb, not_from_false}
use Rattle.std.proofs.lemmas.List.Folds.{list_all-append}
use Rattle.std.specs.List.{list_all}
use Rattle.fws_num.specs.declared.prefix.Prefix.{Prefix}
use Rattle.fws_num.specs.Numbers.{is_digit, dotted, dec_of, quad_of, split_once, lacks, DecimalsAreRead, QuadsAreDotted, SplitsBack, NumbersAreDigits, AddressesAreDotted}
use Rattle.fws_num.specs.Words.{is_printed, plain_word}
use Rattle.fws_num.specs.Written.{is_plain_byte, is_plain, TextsAreRead}
use Rattle.fws_net.specs.declared.cause.SiteCause.TheVariants.{Syntax}
use Rattle.fws_net.specs.declared.site.Address.{Address}
use Rattle.fws_net.specs.declared.site.Names.{Names}
use Rattle.fws_net.specs.declared.site.Side.{Side}
use Rattle.fws_net.specs.declared.site.Side.TheVariants.{Neither, Inside, Outside}
use Rattle.fws_net.specs.Reading.{and_then}
use Rattle.fws_net.specs.Routes.{IsSoundAddress}
use Rattle.fws_net.specs.SiteLaws.{are_names}
use Rattle.fws_net.specs.SiteSpelling.{side_word, net_word}
use Rattle.fws_net.specs.SiteWords.{is_letter, is_name_byte, is_name, name_of, name_behind, names_of, side_of, names_and_side, address_and_len, address_of, net_of}

-- the laws of spelled numbers and addresses
pub record Laws : Type 0 where
  pub texts : TextsAreRead
  pub decimals : DecimalsAreRead
  pub quads : QuadsAreDotted
  pub digits : NumbersAreDigits
  pub dotted_bytes : AddressesAreDotted
  pub splits : SplitsBack

-- Goes on with what was read

pub then_ok : {A B E : Type 0} (r : Result A E) (f : A → Result B E) (x : A) (s : Result B E) → r ≡ Ok x → f x ≡ s → and_then r f ≡ s
then_ok r f x s e k = ap (λ o. and_then o f) e ∙ k

pub if_true : {A : Type 0} (b : Bool) (x y : A) → b ≡ true → cond b x y ≡ x
if_true b x y e = ap (λ t. cond t x y) e

pub if_false : {A : Type 0} (b : Bool) (x y z : A) → b ≡ false → y ≡ z → cond b x y ≡ z
if_false b x y z e k = ap (λ t. cond t x y) e ∙ k

-- Plain bytes

plain_byte : (c : ℕ) → 33 ≤ c → c ≤ 126 → (c ≡ 34 → ⊥) → is_plain_byte c ≡ true
plain_byte c low high other =
    and_from (is_printed c) (not (nat_eq c 34)) (and_from (nat_le 33 c) (nat_le c 126) (le-leb 33 c low) (le-leb c 126 high)) (not_from_false (nat_eq c 34) (ne_eqb c 34 other))

-- a byte from 45 to 122
middle_byte : (c : ℕ) → 45 ≤ c → c ≤ 122 → is_plain_byte c ≡ true
middle_byte c low high = plain_byte c (omega arith) (omega arith) (λ e. omega arith)

letter_plain : (c : ℕ) → is_letter c ≡ true → is_plain_byte c ≡ true
letter_plain c h =
    elim (or_cases (nat_le 65 c && nat_le c 90) (nat_le 97 c && nat_le c 122) h) [
      | inl big ↦ (let parts = and_parts (nat_le 65 c) (nat_le c 90) big in let low = leb-true 65 c parts.0 in let high = leb-true c 90 parts.1 in middle_byte c (omega arith) (omega arith))
      | inr small ↦ (let parts = and_parts (nat_le 97 c) (nat_le c 122) small in let low = leb-true 97 c parts.0 in let high = leb-true c 122 parts.1 in middle_byte c (omega arith) (omega arith))
    ]

digit_plain : (c : ℕ) → is_digit c ≡ true → is_plain_byte c ≡ true
digit_plain c h =
    let parts = and_parts (nat_le 48 c) (nat_le c 57) h in
    let low = leb-true 48 c parts.0 in
    let high = leb-true c 57 parts.1 in
    middle_byte c (omega arith) (omega arith)

one_byte : (c k : ℕ) → nat_eq c k ≡ true → is_plain_byte k ≡ true → is_plain_byte c ≡ true
one_byte c k e h = ap is_plain_byte (eqb-true c k e) ∙ h

name_byte_plain : (c : ℕ) → is_name_byte c ≡ true → is_plain_byte c ≡ true
name_byte_plain c h =
    elim (or_cases (is_letter c || is_digit c || nat_eq c 95 || nat_eq c 46 || nat_eq c 47) (nat_eq c 45) h) [
      | inr e ↦ one_byte c 45 e refl
      | inl h ↦ elim (or_cases (is_letter c || is_digit c || nat_eq c 95 || nat_eq c 46) (nat_eq c 47) h) [
        | inr e ↦ one_byte c 47 e refl
        | inl h ↦ elim (or_cases (is_letter c || is_digit c || nat_eq c 95) (nat_eq c 46) h) [
          | inr e ↦ one_byte c 46 e refl
          | inl h ↦ elim (or_cases (is_letter c || is_digit c) (nat_eq c 95) h) [
            | inr e ↦ one_byte c 95 e refl
            | inl h ↦ elim (or_cases (is_letter c) (is_digit c) h) [ inl e ↦ letter_plain c e | inr e ↦ digit_plain c e ]
          ]
        ]
      ]
    ]

all_weaker : (p q : ℕ → Bool) → ((c : ℕ) → p c ≡ true → q c ≡ true) → (text : List ℕ) → list_all p text ≡ true → list_all q text ≡ true
all_weaker p q by [] h = refl
all_weaker p q by (c ∷ text) h =
    let parts = and_parts (p c) (list_all p text) h in
    and_from (q c) (list_all q text) (by c parts.0) (all_weaker p q by text parts.1)

-- Plain words

some_bytes : (c : ℕ) (text : List ℕ) → nat_le 1 (length (c ∷ text)) ≡ true
some_bytes c text = le-leb 1 (suc (length text)) (omega arith)

-- all bytes of a name are plain
pub name_bytes : (text : List ℕ) → is_name text ≡ true → list_all is_plain_byte text ≡ true
name_bytes [] h = refl
name_bytes (c ∷ cs) h =
    let parts = and_parts (is_letter c && list_all is_name_byte cs) (nat_le (length cs) 29) h in
    let front = and_parts (is_letter c) (list_all is_name_byte cs) parts.0 in
    and_from (is_plain_byte c) (list_all is_plain_byte cs) (letter_plain c front.0) (all_weaker is_name_byte is_plain_byte name_byte_plain cs front.1)

pub name_plain : (text : List ℕ) → is_name text ≡ true → is_plain text ≡ true
name_plain [] h = absurd cc
name_plain (c ∷ cs) h = and_from (nat_le 1 (length (c ∷ cs))) (list_all is_plain_byte (c ∷ cs)) (some_bytes c cs) (name_bytes (c ∷ cs) h)

-- a plain first byte and plain bytes behind it
pub plain_from : (c : ℕ) (cs : List ℕ) → list_all is_plain_byte (c ∷ cs) ≡ true → is_plain (c ∷ cs) ≡ true
plain_from c cs h = and_from (nat_le 1 (length (c ∷ cs))) (list_all is_plain_byte (c ∷ cs)) (some_bytes c cs) h

pub side_plain : (side : Side) → is_plain (side_word side) ≡ true
side_plain Neither = refl
side_plain Inside = refl
side_plain Outside = refl

dotted_byte_plain : (c : ℕ) → (is_digit c || nat_eq c 46) ≡ true → is_plain_byte c ≡ true
dotted_byte_plain c h = elim (or_cases (is_digit c) (nat_eq c 46) h) [ inl e ↦ digit_plain c e | inr e ↦ one_byte c 46 e refl ]

pub net_plain : Laws → (addr len : ℕ) → is_plain (net_word addr len) ≡ true
net_plain laws addr len =
    let front = all_weaker (λ c. is_digit c || nat_eq c 46) is_plain_byte dotted_byte_plain (dotted addr) (laws.dotted_bytes addr).0 in
    let behind = all_weaker is_digit is_plain_byte digit_plain (decimal len) (laws.digits len).0 in
    let bytes : list_all is_plain_byte (dotted addr ++ 47 ∷ decimal len) ≡ true =
    list_all-append is_plain_byte (dotted addr) (47 ∷ decimal len) ∙ and_from (list_all is_plain_byte (dotted addr)) (list_all is_plain_byte (decimal len)) front behind in
    let counted : length (dotted addr ++ 47 ∷ decimal len) ≡ length (dotted addr) + suc (length (decimal len)) = length-append (dotted addr) (47 ∷ decimal len) in
    let some : 1 ≤ length (dotted addr ++ 47 ∷ decimal len) = omega arith in
    and_from (nat_le 1 (length (net_word addr len))) (list_all is_plain_byte (net_word addr len)) (le-leb 1 (length (net_word addr len)) some) bytes

-- Words as they are read

pub name_read : (text : List ℕ) → is_name text ≡ true → name_of text ≡ Ok text
name_read text h = if_true (is_name text) (Ok text) (Err Syntax) h

pub names_read : (n : ℕ) (names : Names) → are_names names ≡ true
    → names_of (plain_word n (codes "ipt=" ++ names.ipt)) (plain_word n (codes "ipfw=" ++ names.ipfw)) (plain_word n (codes "pf=" ++ names.pf)) (plain_word n (codes "ios=" ++ names.ios))
    ≡ Ok names
unfolding names_of
names_read n names h =
    let last = and_parts (is_name names.ipt && is_name names.ipfw && is_name names.pf) (is_name names.ios) h in
    let third = and_parts (is_name names.ipt && is_name names.ipfw) (is_name names.pf) last.0 in
    let first = and_parts (is_name names.ipt) (is_name names.ipfw) third.0 in
    then_ok (name_behind (codes "ipt=") (plain_word n (codes "ipt=" ++ names.ipt))) _ names.ipt _ (name_read names.ipt first.0)
    (then_ok (name_behind (codes "ipfw=") (plain_word n (codes "ipfw=" ++ names.ipfw))) _ names.ipfw _ (name_read names.ipfw first.1)
    (then_ok (name_behind (codes "pf=") (plain_word n (codes "pf=" ++ names.pf))) _ names.pf _ (name_read names.pf third.1)
    (then_ok (name_behind (codes "ios=") (plain_word n (codes "ios=" ++ names.ios))) _ names.ios _ (name_read names.ios last.1) refl)))

side_read : (n : ℕ) (side : Side) → side_of (plain_word n (side_word side)) ≡ Ok side
side_read n Neither = refl
side_read n Inside = refl
side_read n Outside = refl

pub names_and_side_read : (n : ℕ) (names : Names) (side : Side) → are_names names ≡ true
    → names_and_side (plain_word n (codes "ipt=" ++ names.ipt)) (plain_word n (codes "ipfw=" ++ names.ipfw)) (plain_word n (codes "pf=" ++ names.pf)) (plain_word n (codes "ios=" ++ names.ios))
    (plain_word n (side_word side)) ≡ Ok (names, side)
unfolding names_and_side
names_and_side_read n names side h = then_ok _ _ names _ (names_read n names h) (then_ok _ _ side _ (side_read n side) refl)

-- Addresses and networks

not_slash : (c : ℕ) → (is_digit c || nat_eq c 46) ≡ true → not (nat_eq c 47) ≡ true
not_slash c h =
    elim (or_cases (is_digit c) (nat_eq c 46) h) [
      | inl e ↦ (let parts = and_parts (nat_le 48 c) (nat_le c 57) e in let low = leb-true 48 c parts.0 in not_from_false (nat_eq c 47) (ne_eqb c 47 (λ k. omega arith)))
      | inr e ↦ (let is = eqb-true c 46 e in not_from_false (nat_eq c 47) (ne_eqb c 47 (λ k. omega arith)))
    ]

net_word_read : Laws → (addr len : ℕ) → addr < 2 ^ 32 → len ≤ 32 → address_and_len (net_word addr len) ≡ Some (addr, len)
net_word_read laws addr len h k =
    let lacking : lacks 47 (dotted addr) ≡ true = all_weaker (λ c. is_digit c || nat_eq c 46) (λ c. not (nat_eq c 47)) not_slash (dotted addr) (laws.dotted_bytes addr).0 in
    let split : split_once 47 (dotted addr ++ 47 ∷ decimal len) ≡ Some (dotted addr, decimal len) = laws.splits 47 (dotted addr) (decimal len) lacking in
    let quad : quad_of (dotted addr) ≡ Some addr = laws.quads.0 addr h in
    let short : len < 2 ^ 64 = omega arith in
    let dec : dec_of (decimal len) 32 ≡ Some len = laws.decimals len 32 short k in
    ap (λ o. option_and_then (λ parts. option_and_then (λ addr. option_map (λ len. (addr, len)) (dec_of parts.1 32)) (quad_of parts.0)) o) split
    ∙ ap (λ o. option_and_then (λ addr. option_map (λ len. (addr, len)) (dec_of (decimal len) 32)) o) quad
    ∙ ap (λ o. option_map (λ len. (addr, len)) o) dec

abbrev address_made : ℕ × ℕ → Option Address
address_made parts = if nat_eq parts.1 0 then None else Some (record { addr = parts.0; len = parts.1 })

pub address_read : Laws → (own : Address) → IsSoundAddress own → address_of (net_word own.addr own.len) ≡ Ok own
address_read laws own h =
    let some : own.len ≡ 0 → ⊥ = λ e. (let least : 1 ≤ own.len = h.0 in omega arith) in
    ap (λ o. ok_or (option_and_then address_made o) Syntax) (net_word_read laws own.addr own.len h.2 h.1)
    ∙ ap (λ b. ok_or (cond b None (Some own)) Syntax) (ne_eqb own.len 0 some)

abbrev net_made : ℕ × ℕ → Prefix
net_made parts = record { addr = parts.0 - parts.0 % 2 ^ (32 - parts.1); len = parts.1 }

pub net_read : Laws → (net : Prefix) → net.len ≤ 32 → net.addr < 2 ^ 32 → nat_eq (net.addr % 2 ^ (32 - net.len)) 0 ≡ true → net_of (net_word net.addr net.len) ≡ Ok net
net_read laws net k h cleared =
    let none : net.addr % 2 ^ (32 - net.len) ≡ 0 = eqb-true (net.addr % 2 ^ (32 - net.len)) 0 cleared in
    let whole : net.addr - net.addr % 2 ^ (32 - net.len) ≡ net.addr = omega arith in
    ap (λ o. ok_or (option_map net_made o) Syntax) (net_word_read laws net.addr net.len h k)
    ∙ ap (λ (a : ℕ). let made : Prefix = record { addr = a; len = net.len } in ok_or (Some made) Syntax) whole
