-- The words of a generated filter are plain, and its networks and ports are read.
use Rattle.std.proofs.Common.{◌≡◌, ◌≢◌, ℕ, ◌+◌, ◌-◌, ◌%◌, ◌^◌, ◌<◌, ◌≤◌, Bool, true, cond, ◌||◌, not, nat_eq, nat_le, Some, None, List, [], ◌∷◌, ◌++◌, map, length, codes, decimal, refl, ap, ◌∙◌, inl, inr, arith}
use Rattle.std.proofs.lemmas.Bool.{and_from, and_parts, or_cases, leb-true, le-leb, eqb-true, ne_eqb, not_from_false, not-true}
use Rattle.std.proofs.lemmas.List.Folds.{list_all-append}
use Rattle.std.specs.Fmt.{digits}
use Rattle.std.specs.List.{list_all, range_with_len}
use Rattle.std.specs.Option.{option_map}
use Rattle.fws_iv.specs.declared.iv.Iv.{Iv}
use Rattle.fws_num.specs.declared.comments.Comments.TheVariants.{HashLine}
use Rattle.fws_num.specs.declared.prefix.Prefix.{Prefix}
use Rattle.fws_num.specs.Numbers.{AddressesAreDotted, NumbersAreDigits, PrefixesAreRead, dotted, first_bits, is_digit, lacks, prefix_of, split_once}
use Rattle.fws_num.specs.Words.{is_printed}
use Rattle.fws_num.specs.Written.{is_plain, is_plain_byte, is_writable}
use Rattle.fws_net.specs.Faces.{prefix_parts}
use Rattle.fws_load_laws.specs.LoadedFilters.{net_from}
use Rattle.fws_load_laws.proofs.FilterLines.{filter_lines, last_line, net_word, rule_written, source_at, target_at, written}
use Rattle.fws_load_laws.proofs.RuleRead.{words_behind}

-- Bytes

-- a digit, a dot or a slash
middle_byte : (c : ℕ) → 43 ≤ c → c ≤ 122 → is_plain_byte c ≡ true
middle_byte c low high =
    let from : 33 ≤ c = omega arith in
    let to : c ≤ 126 = omega arith in
    let other : c ≢ 34 = λ e. omega arith in
    and_from (is_printed c) (not (nat_eq c 34)) (and_from (nat_le 33 c) (nat_le c 126) (le-leb 33 c from) (le-leb c 126 to)) (not_from_false (nat_eq c 34) (ne_eqb c 34 other))

digit_plain : (c : ℕ) → is_digit c ≡ true → is_plain_byte c ≡ true
digit_plain c h =
    let parts = and_parts (nat_le 48 c) (nat_le c 57) h in
    let low : 48 ≤ c = leb-true 48 c parts.0 in
    let high : c ≤ 57 = leb-true c 57 parts.1 in
    middle_byte c (omega arith) (omega arith)

dotted_plain : (c : ℕ) → (is_digit c || nat_eq c 46) ≡ true → is_plain_byte c ≡ true
dotted_plain c h = elim (or_cases (is_digit c) (nat_eq c 46) h) [ inl e ↦ digit_plain c e | inr e ↦ ap is_plain_byte (eqb-true c 46 e) ]

all_weaker : (p q : ℕ → Bool) → ((c : ℕ) → p c ≡ true → q c ≡ true) → (text : List ℕ) → list_all p text ≡ true → list_all q text ≡ true
all_weaker p q by [] h = refl
all_weaker p q by (c ∷ text) h =
    let parts = and_parts (p c) (list_all p text) h in
    and_from (q c) (list_all q text) (by c parts.0) (all_weaker p q by text parts.1)

-- Texts

plain_some : (text : List ℕ) → text ≢ [] → list_all is_plain_byte text ≡ true → is_plain text ≡ true
plain_some [] some h = absurd (some refl)
plain_some (c ∷ text) some h =
    let long : 1 ≤ length (c ∷ text) = omega arith in
    and_from (nat_le 1 (length (c ∷ text))) (list_all is_plain_byte (c ∷ text)) (le-leb 1 (length (c ∷ text)) long) h

not_empty : (a b : List ℕ) → a ≢ [] → a ++ b ≢ []
not_empty [] b some = λ e. some refl
not_empty (c ∷ a) b some = λ e. absurd cc

-- what is plain is printed
pub plain_printed : (text : List ℕ) → is_plain text ≡ true → list_all is_printed text ≡ true
plain_printed text h =
    all_weaker is_plain_byte is_printed (λ c e. (and_parts (is_printed c) (not (nat_eq c 34)) e).0) text (and_parts (nat_le 1 (length text)) (list_all is_plain_byte text) h).1

-- a text that lacks a byte isn't divided there
split_none : (byte : ℕ) (text : List ℕ) → lacks byte text ≡ true → split_once byte text ≡ None
split_none byte [] h = refl
split_none byte (c ∷ text) h =
    let parts = and_parts (not (nat_eq c byte)) (lacks byte text) h in
    ap (λ b. cond b (Some ([], text)) (option_map (λ parts. (c ∷ parts.0, parts.1)) (split_once byte text))) (not-true (nat_eq c byte) parts.0)
    ∙ ap (option_map (λ parts. (c ∷ parts.0, parts.1))) (split_none byte text parts.1)

digit_lacks : (c : ℕ) → is_digit c ≡ true → not (nat_eq c 58) ≡ true
digit_lacks c h =
    let parts = and_parts (nat_le 48 c) (nat_le c 57) h in
    let high : c ≤ 57 = leb-true c 57 parts.1 in
    let other : c ≢ 58 = λ e. omega arith in
    not_from_false (nat_eq c 58) (ne_eqb c 58 other)

module _ (all_digits : NumbersAreDigits) where
  pub number_plain : (n : ℕ) → is_plain (decimal n) ≡ true
  number_plain n = plain_some (decimal n) (all_digits n).1 (all_weaker is_digit is_plain_byte digit_plain (decimal n) (all_digits n).0)

  -- no colon stands in a number
  pub number_whole : (n : ℕ) → split_once 58 (decimal n) ≡ None
  number_whole n = split_none 58 (decimal n) (all_weaker is_digit (λ c. not (nat_eq c 58)) digit_lacks (decimal n) (all_digits n).0)

module _ (dots : AddressesAreDotted) where
  pub net_plain : (addr : ℕ) → is_plain (net_word addr) ≡ true
  unfolding net_word
  net_plain addr =
      plain_some (dotted addr ++ codes "/24") (not_empty (dotted addr) (codes "/24") (dots addr).1)
      (list_all-append is_plain_byte (dotted addr) (codes "/24")
      ∙ and_from (list_all is_plain_byte (dotted addr)) (list_all is_plain_byte (codes "/24"))
      (all_weaker (λ c. is_digit c || nat_eq c 46) is_plain_byte dotted_plain (dotted addr) (dots addr).0) refl)

-- Networks

abbrev pub net_at : ℕ → Prefix
net_at addr = record { addr = addr; len = 24 }

pub net_read : PrefixesAreRead → (addr : ℕ) → addr < 2 ^ 32 → addr % 256 ≡ 0 → prefix_of (net_word addr) ≡ Some (net_at addr)
unfolding net_word first_bits digits
net_read prefixes addr low clear =
    let short : 24 ≤ 32 = omega arith in
    let same : first_bits 24 addr ≡ addr = omega arith in
    prefixes addr 24 low short ∙ ap (λ (a : ℕ). Some (net_at a)) same

pub net_parts : (addr : ℕ) → addr % 256 ≡ 0 → prefix_parts (net_at addr) ≡ net_from addr
net_parts addr clear =
    let same : addr - addr % 256 ≡ addr = omega arith in
    ap (λ (a : ℕ). let iv : Iv = record { lo = a; hi = a + 255 } in iv ∷ []) same

pub source_clear : (k : ℕ) → source_at k % 256 ≡ 0
source_clear k = omega arith

pub target_clear : (k : ℕ) → target_at k % 256 ≡ 0
target_clear k = omega arith

-- Lines

rule_plain : (source target port : List ℕ) → is_plain source ≡ true → is_plain target ≡ true → is_plain port ≡ true
    → is_writable HashLine (written (codes "-A" ∷ codes "FORWARD" ∷ words_behind source target port)) ≡ true
rule_plain source target port a b c = rw (a, b, c)

module _ (all_digits : NumbersAreDigits) (dots : AddressesAreDotted) where
  rules_plain : (ks : List ℕ) → list_all (is_writable HashLine) (map rule_written ks ++ last_line) ≡ true
  rules_plain [] = refl
  rules_plain (k ∷ ks) =
      and_from (is_writable HashLine (rule_written k)) (list_all (is_writable HashLine) (map rule_written ks ++ last_line))
      (rule_plain (net_word (source_at k)) (net_word (target_at k)) (decimal (1000 + k)) (net_plain dots (source_at k)) (net_plain dots (target_at k)) (number_plain all_digits (1000 + k)))
      (rules_plain ks)

  pub lines_plain : (n : ℕ) → list_all (is_writable HashLine) (filter_lines n) ≡ true
  lines_plain n = rules_plain (range_with_len 0 n)
