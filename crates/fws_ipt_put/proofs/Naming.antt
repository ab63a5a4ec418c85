-- Names of chains: those of the user's end in different numbers, and begin otherwise than those of built-in chains.
use Rattle.std.proofs.Common.{◌≡◌, ◌≢◌, ℕ, suc, ◌+◌, ◌%◌, ◌^◌, ◌<◌, ◌≤◌, ◌⊎◌, inl, inr, Bool, true, false, cond, ◌&&◌, not, nat_eq, nat_le, Option, Some, None, is_none, is_some, List, [], ◌∷◌, ◌++◌, length, All, codes, arith, refl, sym, ap, ◌∙◌, subst}
use Rattle.std.proofs.lemmas.Bool.{false≢true, ne_eqb, eqb-true, and_parts, and_from, leb-true, le-leb, false_from_ne_true}
use Rattle.std.proofs.lemmas.Bool.Decides.{nat_tests}
use Rattle.std.proofs.lemmas.Fmt.{decimal_is_IsNumeral, decimal_by_steps, length-decimal-le}
use Rattle.std.proofs.lemmas.List.Elements.{All-head, All-tail}
use Rattle.std.specs.Fmt.{decimal}
use Rattle.std.specs.List.{list_all}
use Rattle.std.specs.Option.{option_map_or}
use Rattle.std.specs.Str.{bytes_eq}
use Rattle.std.specs.Str.Parse.{digits_value}
use Rattle.fws_ipt.specs.declared.config.IptChain.{IptChain}
use Rattle.fws_ipt.specs.declared.hook.Hook.TheVariants.{Prerouting, Input, Forward, Output, Postrouting}
use Rattle.fws_ipt.specs.Hooks.{has_hook, hook_named}
use Rattle.fws_ipt.specs.RuleText.{is_chain}
use Rattle.fws_ipt.specs.Soundness.{are_apart, is_named}
use Rattle.fws_ipt.specs.Walk.{is_table}
use Rattle.fws_ipt_print.specs.Printable.{begins_with_letter, is_chain_name, is_name_byte}
use Rattle.fws_ipt_put_chains.specs.Blocks.{EndsInNumber}
use Rattle.fws_ipt_put.specs.Marks.{mark_name}
use Rattle.fws_ipt_put.proofs.Closing.{all_joined}
use Rattle.fws_ipt_put.proofs.Lists.{some_is}

-- texts that are compared are equal
bytes_equal : (x y : List ℕ) → bytes_eq x y ≡ true → x ≡ y
bytes_equal [] [] h = refl
bytes_equal [] (b ∷ y) h = absurd (false≢true h)
bytes_equal (a ∷ x) [] h = absurd (false≢true h)
bytes_equal (a ∷ x) (b ∷ y) h =
    let both = and_parts (nat_eq a b) (bytes_eq x y) h in
    λ i. eqb-true a b both.0 i ∷ bytes_equal x y both.1 i

-- Numbers at the end

abbrev no_dash : List ℕ → Bool
no_dash text = list_all (λ c. not (nat_eq c 45)) text

abbrev or_else : Option (List ℕ) → Option (List ℕ) → Option (List ℕ)
or_else None other = other
or_else (Some x) other = Some x

-- what stands behind the last dash
abbrev behind_dash : List ℕ → Option (List ℕ)
behind_dash [] = None
behind_dash (c ∷ cs) = or_else (behind_dash cs) (cond (nat_eq c 45) (Some cs) None)

none_behind : (text : List ℕ) → no_dash text ≡ true → behind_dash text ≡ None
none_behind [] h = refl
none_behind (c ∷ cs) h =
    let both = and_parts (not (nat_eq c 45)) (no_dash cs) h in
    ap (λ o. or_else o (cond (nat_eq c 45) (Some cs) None)) (none_behind cs both.1) ∙ ap (λ b. cond b (Some cs) None) (off (nat_eq c 45) both.0) where
      off : (b : Bool) → not b ≡ true → b ≡ false
      off true h = absurd (false≢true h)
      off false h = refl

found_behind : (front text : List ℕ) → no_dash text ≡ true → behind_dash (front ++ 45 ∷ text) ≡ Some text
found_behind [] text h = ap (λ o. or_else o (Some text)) (none_behind text h)
found_behind (c ∷ front) text h = ap (λ o. or_else o (cond (nat_eq c 45) (Some (front ++ 45 ∷ text)) None)) (found_behind front text h)

digit_no_dash : (d : ℕ) → not (nat_eq (48 + d) 45) ≡ true
digit_no_dash d = ap not (ne_eqb (48 + d) 45 (omega arith))

decimal_no_dash : (n : ℕ) → n < 2 ^ 64 → no_dash (decimal n) ≡ true
decimal_no_dash n small = decimal_by_steps (λ m ds. no_dash ds ≡ true)
    (λ m lt. and_from (not (nat_eq (48 + m) 45)) true (digit_no_dash m) refl)
    (λ m ds ge before. all_joined (λ c. not (nat_eq c 45)) ds ((48 + m % 10) ∷ []) before (and_from (not (nat_eq (48 + m % 10) 45)) true (digit_no_dash (m % 10)) refl))
    n small

-- names that end in different numbers differ
numbers_differ : (j k : ℕ) (x y : List ℕ) → j < 2 ^ 64 → k < 2 ^ 64 → EndsInNumber j x → EndsInNumber k y → j ≢ k → bytes_eq x y ≡ false
numbers_differ j k x y small_j small_k ends_x ends_y other = false_from_ne_true (bytes_eq x y) (λ same.
    let texts : ends_x.0 ++ 45 ∷ decimal j ≡ ends_y.0 ++ 45 ∷ decimal k = sym ends_x.1 ∙ bytes_equal x y same ∙ ends_y.1 in
    let behind = sym (found_behind ends_x.0 (decimal j) (decimal_no_dash j small_j)) ∙ ap behind_dash texts ∙ found_behind ends_y.0 (decimal k) (decimal_no_dash k small_k) in
    let decimals : decimal j ≡ decimal k = some_is behind in
    other (sym (decimal_is_IsNumeral j small_j).1 ∙ ap (λ t. digits_value 10 t) decimals ∙ (decimal_is_IsNumeral k small_k).1))

-- Letters at the beginning

letter_isnt : (name : List ℕ) (c : ℕ) (rest : List ℕ) → c < 97 → begins_with_letter name ≡ true → bytes_eq name (c ∷ rest) ≡ false
letter_isnt [] c rest low h = refl
letter_isnt (a ∷ name) c rest low h =
    let above : 97 ≤ a = leb-true 97 a (and_parts (nat_le 97 a) (nat_le a 122) h).0 in
    ap (λ b. b && bytes_eq name rest) (ne_eqb a c (omega (arith, above, low)))

-- a name that begins with a letter isn't that of a built-in chain
pub letter_is_users : (name : List ℕ) → begins_with_letter name ≡ true → hook_named name ≡ None
unfolding hook_named
letter_is_users name h =
    let pre = letter_isnt name 80 (codes "REROUTING") (omega arith) h in
    let inp = letter_isnt name 73 (codes "NPUT") (omega arith) h in
    let fwd = letter_isnt name 70 (codes "ORWARD") (omega arith) h in
    let out = letter_isnt name 79 (codes "UTPUT") (omega arith) h in
    let post = letter_isnt name 80 (codes "OSTROUTING") (omega arith) h in
    (λ i. cond (pre i) (Some Prerouting) (cond (inp i) (Some Input) (cond (fwd i) (Some Forward) (cond (out i) (Some Output) (cond (post i) (Some Postrouting) None)))))

letter_first : (name : List ℕ) → is_chain_name name ≡ true → begins_with_letter name ≡ true
letter_first name h =
    (and_parts (begins_with_letter name) (list_all is_name_byte name)
    (and_parts (begins_with_letter name && list_all is_name_byte name) (nat_le (length name) 28) h).0).0

-- a chain of the user's, named so
pub record IsUserChain (chain : IptChain) : Type 0 where
  pub policy : chain.policy ≡ None
  pub letter : begins_with_letter chain.name ≡ true

pub user_named : (chain : IptChain) → IsUserChain chain → is_named chain ≡ true
user_named chain user =
    ap (λ o. cond (option_map_or (has_hook chain.table) o false) (is_some chain.policy) (is_none chain.policy)) (letter_is_users chain.name user.letter)
    ∙ ap is_none user.policy

pub users_named : (block : List IptChain) → All IsUserChain block → list_all is_named block ≡ true
users_named [] users = refl
users_named (x ∷ xs) users =
    and_from (is_named x) (list_all is_named xs) (user_named x (All-head IsUserChain x xs users)) (users_named xs (All-tail IsUserChain x xs users))

-- Chains that differ

-- the chains from a number on are built-in ones by their names, or end in their numbers
abbrev pub AreTold : ℕ → List IptChain → Type 0
AreTold n [] = Unit {0}
AreTold n (x ∷ xs) = ((begins_with_letter x.name ≡ false) ⊎ EndsInNumber n x.name) × AreTold (suc n) xs

-- those of a block are the user's, and end in their numbers
abbrev pub AreNumbered : ℕ → List IptChain → Type 0
AreNumbered n [] = Unit {0}
AreNumbered n (x ∷ xs) = (begins_with_letter x.name ≡ true) × EndsInNumber n x.name × AreNumbered (suc n) xs

pub told_behind : (n : ℕ) (xs ys : List IptChain) → AreNumbered n xs → AreTold (n + length xs) ys → AreTold n (xs ++ ys)
told_behind n [] ys numbered told = let same : n + 0 ≡ n = omega arith in subst (λ m. AreTold m ys) same told
told_behind n (x ∷ xs) ys numbered told =
    let same : n + suc (length xs) ≡ suc n + length xs = omega arith in
    (inr numbered.1, told_behind (suc n) xs ys numbered.2 (subst (λ m. AreTold m ys) same told))

not_both : (a b : Bool) → b ≡ false → not (a && b) ≡ true
not_both true b h = ap not h
not_both false b h = refl

-- a chain of the user's isn't one that stands behind it
apart_from : (n m : ℕ) (x : IptChain) (ys : List IptChain) → n < m → m + length ys < 2 ^ 64 → begins_with_letter x.name ≡ true → EndsInNumber n x.name → AreTold m ys
    → list_all (λ (later : IptChain). not (is_chain later.table later.name x)) ys ≡ true
apart_from n m x [] less few letter ends told = refl
apart_from n m x (y ∷ ys) less few letter ends told =
    and_from (not (is_chain y.table y.name x)) (list_all (λ (later : IptChain). not (is_chain later.table later.name x)) ys)
    (not_both (is_table y.table x.table) (bytes_eq x.name y.name) (by_name told.0))
    (apart_from n (suc m) x ys (omega (arith, less)) (omega (arith, few)) letter ends told.1) where
      by_name : ((begins_with_letter y.name ≡ false) ⊎ EndsInNumber m y.name) → bytes_eq x.name y.name ≡ false
      by_name (inl capital) = false_from_ne_true (bytes_eq x.name y.name) (λ same. false≢true (sym capital ∙ ap begins_with_letter (sym (bytes_equal x.name y.name same)) ∙ letter))
      by_name (inr number) = numbers_differ n m x.name y.name (omega (arith, less, few)) (omega (arith, few)) ends number (omega (arith, less))

pub block_apart : (n : ℕ) (xs ys : List IptChain) → AreNumbered n xs → AreTold (n + length xs) ys → n + length (xs ++ ys) < 2 ^ 64 → are_apart ys ≡ true → are_apart (xs ++ ys) ≡ true
block_apart n [] ys numbered told few h = h
block_apart n (x ∷ xs) ys numbered told few h =
    let same : n + suc (length xs) ≡ suc n + length xs = omega arith in
    let later = subst (λ m. AreTold m ys) same told in
    and_from (list_all (λ (other : IptChain). not (is_chain other.table other.name x)) (xs ++ ys)) (are_apart (xs ++ ys))
    (apart_from n (suc n) x (xs ++ ys) (omega arith) (omega (arith, few)) numbered.0 numbered.1 (told_behind (suc n) xs ys numbered.2 later))
    (block_apart (suc n) xs ys numbered.2 later (omega (arith, few)) h)

-- a built-in chain isn't one of the user's
pub builtin_apart : (x : IptChain) → begins_with_letter x.name ≡ false → (n : ℕ) (ys : List IptChain) → AreNumbered n ys
    → list_all (λ (later : IptChain). not (is_chain later.table later.name x)) ys ≡ true
builtin_apart x capital n [] numbered = refl
builtin_apart x capital n (y ∷ ys) numbered =
    and_from (not (is_chain y.table y.name x)) (list_all (λ (later : IptChain). not (is_chain later.table later.name x)) ys)
    (not_both (is_table y.table x.table) (bytes_eq x.name y.name)
    (false_from_ne_true (bytes_eq x.name y.name) (λ same. false≢true (sym capital ∙ ap begins_with_letter (bytes_equal x.name y.name same) ∙ numbered.0))))
    (builtin_apart x capital (suc n) ys numbered.2)

-- nor one in lists that are put together
pub builtin_alone : (x : IptChain) → begins_with_letter x.name ≡ false → (n m : ℕ) (xs ys zs : List IptChain) → AreNumbered n xs
    → list_all (λ (later : IptChain). not (is_chain later.table later.name x)) ys ≡ true → AreNumbered m zs
    → list_all (λ (later : IptChain). not (is_chain later.table later.name x)) (xs ++ (ys ++ zs)) ≡ true
builtin_alone x capital n m xs ys zs first second third =
    all_joined (λ (later : IptChain). not (is_chain later.table later.name x)) xs (ys ++ zs) (builtin_apart x capital n xs first)
    (all_joined (λ (later : IptChain). not (is_chain later.table later.name x)) ys zs second (builtin_apart x capital m zs third))

-- Names of marks

digit_is_name : (d : ℕ) → d < 10 → is_name_byte (48 + d) ≡ true
digit_is_name d low = grind (arith, nat_tests)

decimal_is_name : (n : ℕ) → n < 2 ^ 64 → list_all is_name_byte (decimal n) ≡ true
decimal_is_name n small = decimal_by_steps (λ m ds. list_all is_name_byte ds ≡ true)
    (λ m lt. and_from (is_name_byte (48 + m)) true (digit_is_name m lt) refl)
    (λ m ds ge before. all_joined is_name_byte ds ((48 + m % 10) ∷ []) before (and_from (is_name_byte (48 + m % 10)) true (digit_is_name (m % 10) (omega arith)) refl))
    n small

pub mark_named : (v : ℕ) → v < 2 ^ 32 → is_chain_name (mark_name v) ≡ true
mark_named v small =
    let wide : v < 2 ^ 64 = omega (arith, small) in
    let tens : v < 10 ^ 10 = omega (arith, small) in
    let short = length-decimal-le 10 v (omega arith) tens wide in
    and_from (begins_with_letter (mark_name v) && list_all is_name_byte (mark_name v)) (nat_le (length (mark_name v)) 28)
    (and_from (begins_with_letter (mark_name v)) (list_all is_name_byte (mark_name v)) refl (decimal_is_name v wide))
    (le-leb (length (mark_name v)) 28 (omega (arith, short)))
