-- Sets of values, value by value.
use Rattle.std.proofs.Common.{◌≡◌, ℕ, ◌+◌, Bool, true, false, ◌&&◌, ◌||◌, not, nat_eq, nat_le, nat_lt, inl, inr, refl, sym, ap, ◌∙◌, arith}
use Rattle.std.proofs.lemmas.Bool.{cases_order, and_from, and_left, and_right, le-leb, lt-leb, lt-ltb, le-ltb, eq-eqb, ne_eqb}

-- the range of one value
pub at_value : (value v : ℕ) → (nat_le value v && nat_le v value) ≡ nat_eq v value
at_value value v = elim (cases_order v value) [
  | inl e ↦ and_from (nat_le value v) (nat_le v value) (le-leb value v (omega arith)) (le-leb v value (omega arith)) ∙ sym (eq-eqb v value e)
  | inr d ↦ elim d [
    | inl lt ↦ and_left (nat_le value v) (nat_le v value) (lt-leb value v lt) ∙ sym (ne_eqb v value (λ e. omega arith))
    | inr gt ↦ and_right (nat_le value v) (nat_le v value) (lt-leb v value gt) ∙ sym (ne_eqb v value (λ e. omega arith))
  ]
]

at_end : (x y t : Bool) → t ≡ x → ((false && y) || (t && true)) ≡ (true && x)
at_end true y t e = rw e refl
at_end false y t e = rw e refl

before : (x t : Bool) → ((true && x) || (t && false)) ≡ (true && x)
before true t = refl
before false true = refl
before false false = refl

behind : (x t : Bool) → ((false && x) || (t && false)) ≡ (false && x)
behind x true = refl
behind x false = refl

-- one more value of those that meet a test
pub one_more : (n v : ℕ) (t : Bool) (meets : ℕ → Bool) → t ≡ meets n → ((nat_lt v n && meets v) || (t && nat_eq v n)) ≡ (nat_lt v (n + 1) && meets v)
one_more n v t meets is = elim (cases_order v n) [
  | inl e ↦ rw (le-ltb v n (omega arith), eq-eqb v n e, lt-ltb v (n + 1) (omega arith)) (at_end (meets v) (meets v) t (is ∙ ap meets (sym e)))
  | inr d ↦ elim d [
    | inl lt ↦ rw (lt-ltb v n lt, ne_eqb v n (λ e. omega arith), lt-ltb v (n + 1) (omega arith)) (before (meets v) t)
    | inr gt ↦ rw (le-ltb v n (omega arith), ne_eqb v n (λ e. omega arith), le-ltb v (n + 1) (omega arith)) (behind (meets v) t)
  ]
]

and_moved : (t e l : Bool) → (t && (e && l)) ≡ ((t && l) && e)
and_moved true true l = right l
  where
    right : (l : Bool) → l ≡ (l && true)
    right true = refl
    right false = refl
and_moved true false l = right l
  where
    right : (l : Bool) → false ≡ (l && false)
    right true = refl
    right false = refl
and_moved false e l = refl

-- the same, where the value itself is tested too
pub one_more_low : (n v : ℕ) (t low : Bool) (meets : ℕ → Bool) → t ≡ meets n
    → ((nat_lt v n && (meets v && low)) || (t && (nat_eq v n && low))) ≡ (nat_lt v (n + 1) && (meets v && low))
one_more_low n v t low meets is =
    ap (λ b. (nat_lt v n && (meets v && low)) || b) (and_moved t (nat_eq v n) low)
    ∙ one_more n v (t && low) (λ k. meets k && low) (ap (λ b. b && low) is)

-- what a range from 0 leaves of a test
pub left_of : (top v : ℕ) (b : Bool) → (((nat_le 0 v && nat_le v top) || false) && not (nat_lt v (top + 1) && b)) ≡ (nat_lt v (top + 1) && not b)
left_of top v b = elim (cases_order v top) [
  | inl e ↦ rw (le-leb 0 v (omega arith), le-leb v top (omega arith), lt-ltb v (top + 1) (omega arith)) refl
  | inr d ↦ elim d [
    | inl lt ↦ rw (le-leb 0 v (omega arith), le-leb v top (omega arith), lt-ltb v (top + 1) (omega arith)) refl
    | inr gt ↦ rw (le-leb 0 v (omega arith), lt-leb v top gt, le-ltb v (top + 1) (omega arith)) refl
  ]
]
