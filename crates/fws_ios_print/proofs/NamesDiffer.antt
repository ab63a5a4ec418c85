-- Names that ascend differ.
use Rattle.std.proofs.Common.{◌≡◌, ℕ, ◌<◌, Bool, true, false, ◌&&◌, not, nat_eq, nat_lt, List, [], ◌∷◌, refl, ap, sym, ◌∙◌, arith, inl, inr}
use Rattle.std.proofs.lemmas.Bool.{and_from, and_parts, or_cases, or_from, or_left, or_right, ltb-true, lt-ltb, eqb-true, eq-eqb, not_from_false, false_from_ne_true}
use Rattle.std.proofs.lemmas.Slice.Eq.{bytes_eq-Decides}
use Rattle.std.specs.List.{list_all, list_any}
use Rattle.std.specs.Str.{bytes_eq}
use Rattle.fws_ios.specs.declared.config.IosList.{IosList}
use Rattle.fws_ios.specs.Soundness.{are_apart}
use Rattle.fws_ios_print.specs.Order.{names_ascend, precedes, rank}
use Rattle.fws_ios_print.proofs.Basics.{never}

-- no text stands ahead of itself
not_itself : (a : List ℕ) → precedes a a ≡ true → ⊥
not_itself [] h = never h
not_itself (c ∷ cs) h = elim (or_cases (nat_lt c c) (nat_eq c c && precedes cs cs) h) [
  | inl e ↦ (let lt : c < c = ltb-true c c e in absurd (omega arith))
  | inr e ↦ not_itself cs (and_parts (nat_eq c c) (precedes cs cs) e).1
]

-- what stands behind a text that stands behind a first one stands behind that one
behind : (a b c : List ℕ) → precedes a b ≡ true → precedes b c ≡ true → precedes a c ≡ true
behind a b [] h k = never k
behind a [] (z ∷ zs) h k = never h
behind [] (y ∷ ys) (z ∷ zs) h k = refl
behind (x ∷ xs) (y ∷ ys) (z ∷ zs) h k =
    elim (or_cases (nat_lt x y) (nat_eq x y && precedes xs ys) h) [
      | inl e ↦
          (let xy : x < y = ltb-true x y e in
          elim (or_cases (nat_lt y z) (nat_eq y z && precedes ys zs) k) [
            | inl f ↦ (let yz : y < z = ltb-true y z f in or_left (nat_lt x z) (nat_eq x z && precedes xs zs) (lt-ltb x z (omega arith)))
            | inr f ↦ (let same : y ≡ z = eqb-true y z (and_parts (nat_eq y z) (precedes ys zs) f).0 in or_left (nat_lt x z) (nat_eq x z && precedes xs zs) (lt-ltb x z (omega arith)))
          ])
      | inr e ↦
          (let p = and_parts (nat_eq x y) (precedes xs ys) e in
          let same : x ≡ y = eqb-true x y p.0 in
          elim (or_cases (nat_lt y z) (nat_eq y z && precedes ys zs) k) [
            | inl f ↦ (let yz : y < z = ltb-true y z f in or_left (nat_lt x z) (nat_eq x z && precedes xs zs) (lt-ltb x z (omega arith)))
            | inr f ↦
                (let q = and_parts (nat_eq y z) (precedes ys zs) f in
                let next : y ≡ z = eqb-true y z q.0 in
                or_right (nat_lt x z) (nat_eq x z && precedes xs zs) (and_from (nat_eq x z) (precedes xs zs) (eq-eqb x z (omega arith)) (behind xs ys zs p.1 q.1)))
          ])
    ]

-- all names stand behind this one
abbrev follow : List ℕ → List IosList → Bool
follow name ls = list_all (λ l. precedes (rank name) (rank l.name)) ls

follow_first : (name first : List ℕ) (ls : List IosList) → precedes (rank name) (rank first) ≡ true → follow first ls ≡ true → follow name ls ≡ true
follow_first name first [] h k = refl
follow_first name first (l ∷ ls) h k =
    let parts = and_parts (precedes (rank first) (rank l.name)) (follow first ls) k in
    and_from (precedes (rank name) (rank l.name)) (follow name ls) (behind (rank name) (rank first) (rank l.name) h parts.0) (follow_first name first ls h parts.1)

all_follow : (name : List ℕ) (ls : List IosList) → names_ascend name ls ≡ true → follow name ls ≡ true
all_follow name [] h = refl
all_follow name (l ∷ ls) h =
    let parts = and_parts (precedes (rank name) (rank l.name)) (names_ascend l.name ls) h in
    and_from (precedes (rank name) (rank l.name)) (follow name ls) parts.0 (follow_first name l.name ls parts.0 (all_follow l.name ls parts.1))

none_same : (name : List ℕ) (ls : List IosList) → follow name ls ≡ true → list_any (λ other. bytes_eq other.name name) ls ≡ false
none_same name [] h = refl
none_same name (l ∷ ls) h =
    let parts = and_parts (precedes (rank name) (rank l.name)) (follow name ls) h in
    or_from (bytes_eq l.name name) (list_any (λ other. bytes_eq other.name name) ls)
    (false_from_ne_true (bytes_eq l.name name)
    (λ e. not_itself (rank name) (ap (λ (x : List ℕ). precedes (rank name) (rank x)) (sym ((bytes_eq-Decides l.name name).0 e)) ∙ parts.0)))
    (none_same name ls parts.1)

pub ascending_apart : (name : List ℕ) (ls : List IosList) → names_ascend name ls ≡ true → are_apart ls ≡ true
ascending_apart name [] h = refl
ascending_apart name (l ∷ ls) h =
    let later = (and_parts (precedes (rank name) (rank l.name)) (names_ascend l.name ls) h).1 in
    and_from (not (list_any (λ other. bytes_eq other.name l.name) ls)) (are_apart ls)
    (not_from_false (list_any (λ other. bytes_eq other.name l.name) ls) (none_same l.name ls (all_follow l.name ls later))) (ascending_apart l.name ls later)
