-- Names of tags are read as their numbers.
use Rattle.std.proofs.Common.{◌≡◌, ◌≢◌, ℕ, zero, suc, ◌+◌, ◌^◌, ◌<◌, ◌≤◌, Bool, true, false, cond, ◌&&◌, ◌||◌, nat_eq, nat_lt, Some, None, List, [], ◌∷◌, ◌++◌, map, length, decimal, refl, ap, ap₂, sym, ◌∙◌, arith}
use Rattle.std.proofs.lemmas.Bool.{and_parts, or_from, or_right, ltb-true, eqb-true, false_from_ne_true}
use Rattle.std.proofs.lemmas.Fmt.{decimal_injective}
use Rattle.std.proofs.lemmas.Slice.Eq.{bytes_eq-Decides}
use Rattle.std.specs.List.{list_any, range_with_len}
use Rattle.std.specs.Str.{bytes_eq}
use Rattle.fws_pf.specs.RuleText.{place_of, with_name}
use Rattle.fws_pf_print.specs.Printable.{are_named, behind_tag, tag_name}
use Rattle.fws_pf_print.proofs.Basics.{bytes_same, if_true, if_false}

-- the names of so many tags from a number on
unfoldable pub names_from : ℕ → ℕ → List (List ℕ)
names_from a k = map tag_name (range_with_len a k)

abbrev pub names : ℕ → List (List ℕ)
names k = names_from 0 k

-- names of different numbers differ
other_name : (m n : ℕ) → m < 2 ^ 64 → n < 2 ^ 64 → m ≢ n → bytes_eq (tag_name m) (tag_name n) ≡ false
other_name m n hm hn other =
    false_from_ne_true (bytes_eq (tag_name m) (tag_name n)) (λ e. (let same : tag_name m ≡ tag_name n = (bytes_eq-Decides (tag_name m) (tag_name n)).0 e in
    let digits : decimal m ≡ decimal n = cc in other (decimal_injective m n hm hn digits)))

place_there : (a i k : ℕ) → i < k → a + k ≤ 2 ^ 63 → place_of (names_from a k) (tag_name (a + i)) ≡ i
unfolding names_from
place_there a i zero lt few = absurd (omega arith)
place_there a zero (suc k) lt few =
    let same : a + 0 ≡ a = omega arith in
    if_true (bytes_eq (tag_name (a + 0)) (tag_name a)) 0 (suc (place_of (names_from (a + 1) k) (tag_name (a + 0)))) (ap (λ m. bytes_eq (tag_name m) (tag_name a)) same ∙ bytes_same (tag_name a))
place_there a (suc i) (suc k) lt few =
    let other : a + suc i ≢ a = λ e. omega arith in
    let next : a + suc i ≡ a + 1 + i = omega arith in
    if_false (bytes_eq (tag_name (a + suc i)) (tag_name a)) 0 (suc (place_of (names_from (a + 1) k) (tag_name (a + suc i)))) (other_name (a + suc i) a (omega arith) (omega arith) other)
    ∙ ap (λ m. suc (place_of (names_from (a + 1) k) (tag_name m))) next
    ∙ ap suc (place_there (a + 1) i k (omega arith) (omega arith))

place_new : (a k : ℕ) → a + k < 2 ^ 63 → place_of (names_from a k) (tag_name (a + k)) ≡ k
unfolding names_from
place_new a zero few = refl
place_new a (suc k) few =
    let other : a + suc k ≢ a = λ e. omega arith in
    let next : a + suc k ≡ a + 1 + k = omega arith in
    if_false (bytes_eq (tag_name (a + suc k)) (tag_name a)) 0 (suc (place_of (names_from (a + 1) k) (tag_name (a + suc k)))) (other_name (a + suc k) a (omega arith) (omega arith) other)
    ∙ ap (λ m. suc (place_of (names_from (a + 1) k) (tag_name m))) next
    ∙ ap suc (place_new (a + 1) k (omega arith))

is_there : (a i k : ℕ) → i < k → list_any (bytes_eq (tag_name (a + i))) (names_from a k) ≡ true
unfolding names_from
is_there a i zero lt = absurd (omega arith)
is_there a zero (suc k) lt =
    let same : a + 0 ≡ a = omega arith in
    ap (λ b. b || list_any (bytes_eq (tag_name (a + 0))) (names_from (a + 1) k)) (ap (λ m. bytes_eq (tag_name m) (tag_name a)) same ∙ bytes_same (tag_name a))
is_there a (suc i) (suc k) lt =
    let next : a + suc i ≡ a + 1 + i = omega arith in
    or_right (bytes_eq (tag_name (a + suc i)) (tag_name a)) (list_any (bytes_eq (tag_name (a + suc i))) (names_from (a + 1) k))
    (ap (λ m. list_any (bytes_eq (tag_name m)) (names_from (a + 1) k)) next ∙ is_there (a + 1) i k (omega arith))

is_new : (a k : ℕ) → a + k < 2 ^ 63 → list_any (bytes_eq (tag_name (a + k))) (names_from a k) ≡ false
unfolding names_from
is_new a zero few = refl
is_new a (suc k) few =
    let other : a + suc k ≢ a = λ e. omega arith in
    let next : a + suc k ≡ a + 1 + k = omega arith in
    or_from (bytes_eq (tag_name (a + suc k)) (tag_name a)) (list_any (bytes_eq (tag_name (a + suc k))) (names_from (a + 1) k)) (other_name (a + suc k) a (omega arith) (omega arith) other)
    (ap (λ m. list_any (bytes_eq (tag_name m)) (names_from (a + 1) k)) next ∙ is_new (a + 1) k (omega arith))

one_more : (a k : ℕ) → names_from a k ++ tag_name (a + k) ∷ [] ≡ names_from a (suc k)
unfolding names_from
one_more a zero = (let same : a + 0 ≡ a = omega arith in ap (λ m. tag_name m ∷ []) same)
one_more a (suc k) =
    let next : a + suc k ≡ a + 1 + k = omega arith in
    ap (λ m. tag_name a ∷ (names_from (a + 1) k ++ tag_name m ∷ [])) next ∙ ap (λ (l : List (List ℕ)). tag_name a ∷ l) (one_more (a + 1) k)

-- what is read of the name of a tag
pub record IsTag (n known next : ℕ) : Type 0 where
  pub place : place_of (names known) (tag_name n) ≡ n
  pub behind : with_name (names known) (tag_name n) ≡ names next
  pub few : next ≤ 2 ^ 32

pub tag_read : (n known next : ℕ) → known ≤ 2 ^ 32 → behind_tag n known ≡ Some next → IsTag n known next
tag_read n known next few h = by_test (nat_lt n known) refl h
  where
    new : (b : Bool) → (nat_eq n known && nat_lt n (2 ^ 32)) ≡ b → cond b (Some (suc known)) None ≡ Some next → IsTag n known next
    new false e k = absurd cc
    new true e k =
        let parts = and_parts (nat_eq n known) (nat_lt n (2 ^ 32)) e in
        let same : n ≡ known = eqb-true n known parts.0 in
        let low : n < 2 ^ 32 = ltb-true n (2 ^ 32) parts.1 in
        let small : 0 + known < 2 ^ 63 = omega arith in
        let after : suc known ≡ next = cc in
        let from : known ≡ 0 + known = omega arith in
        record {
          place = ap (λ m. place_of (names known) (tag_name m)) (same ∙ from) ∙ place_new 0 known small ∙ sym same;
          behind = ap (λ m. with_name (names known) (tag_name m)) (same ∙ from)
              ∙ if_false (list_any (bytes_eq (tag_name (0 + known))) (names known)) (names known) (names known ++ tag_name (0 + known) ∷ []) (is_new 0 known small)
              ∙ one_more 0 known ∙ ap names after;
          few = omega arith;
        }

    by_test : (b : Bool) → nat_lt n known ≡ b → cond b (Some known) (cond (nat_eq n known && nat_lt n (2 ^ 32)) (Some (suc known)) None) ≡ Some next → IsTag n known next
    by_test true e k =
        let lt : n < known = ltb-true n known e in
        let small : 0 + known ≤ 2 ^ 63 = omega arith in
        let after : known ≡ next = cc in
        let from : n ≡ 0 + n = omega arith in
        record {
          place = ap (λ m. place_of (names known) (tag_name m)) from ∙ place_there 0 n known lt small;
          behind = ap (λ m. with_name (names known) (tag_name m)) from
              ∙ if_true (list_any (bytes_eq (tag_name (0 + n))) (names known)) (names known) (names known ++ tag_name (0 + n) ∷ []) (is_there 0 n known lt) ∙ ap names after;
          few = omega arith;
        }
    by_test false e k = new (nat_eq n known && nat_lt n (2 ^ 32)) refl k

-- names that are those of the tags from a number on
pub named_same : (a : ℕ) (tags : List (List ℕ)) → are_named a tags ≡ true → tags ≡ names_from a (length tags)
unfolding names_from
named_same a [] h = refl
named_same a (name ∷ tags) h =
    let parts = and_parts (bytes_eq name (tag_name a)) (are_named (suc a) tags) h in
    let next : suc a ≡ a + 1 = omega arith in
    ap₂ (λ (x : List ℕ) (xs : List (List ℕ)). x ∷ xs) ((bytes_eq-Decides name (tag_name a)).0 parts.0) (named_same (suc a) tags parts.1 ∙ ap (λ m. names_from m (length tags)) next)
