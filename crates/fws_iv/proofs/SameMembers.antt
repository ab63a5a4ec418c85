-- Regular lists with the same members are equal.
use Rattle.std.proofs.Common.{◌≡◌, ℕ, ◌+◌, ◌<◌, ◌≤◌, true, false, ◌||◌, List, [], ◌∷◌, inl, inr, refl, sym, ◌∙◌, ap, arith}
use Rattle.std.proofs.lemmas.Bool.{or_cases, or_left, cases_Bool, cases_order, both_ways}
use Rattle.fws_iv.specs.declared.iv.Iv.{Iv}
use Rattle.fws_iv.specs.Ivs.{in_part, has, IsRegularFrom}
use Rattle.fws_iv.proofs.Parts.{in_part-from, in_part-true, has-from, has_below}

-- up to right behind the first interval no later one has a number
after_first : (x : Iv) (xs : List Iv) → IsRegularFrom (x.hi + 2) xs → (v : ℕ) → v ≤ x.hi + 1 → has xs v ≡ false
after_first x xs r v le = has_below (x.hi + 2) xs r v (omega arith)

iv_same : (x y : Iv) → x.lo ≡ y.lo → x.hi ≡ y.hi → x ≡ y
iv_same x y p q = let mk : ℕ → ℕ → Iv = λ a b. record { lo = a; hi = b } in ap (λ a. mk a x.hi) p ∙ ap (λ b. mk y.lo b) q

-- what the first interval of one list has lies from the first of the other on
first_lo : (l : ℕ) (x y : Iv) (xs ys : List Iv) → IsRegularFrom l (x ∷ xs) → IsRegularFrom l (y ∷ ys) → ((v : ℕ) → has (x ∷ xs) v ≡ has (y ∷ ys) v) → y.lo ≤ x.lo
first_lo l x y xs ys a b same =
    let there : has (y ∷ ys) x.lo ≡ true = sym (same x.lo) ∙ or_left (in_part x x.lo) (has xs x.lo) (in_part-from x x.lo (omega arith) (omega (arith, a))) in
    has-from y.lo (y ∷ ys) (omega arith, b.1, b.2) x.lo there

first_hi : (l : ℕ) (x y : Iv) (xs ys : List Iv) → IsRegularFrom l (x ∷ xs) → IsRegularFrom l (y ∷ ys) → x.lo ≡ y.lo → ((v : ℕ) → has (x ∷ xs) v ≡ has (y ∷ ys) v) → x.hi < y.hi → ⊥
first_hi l x y xs ys a b lo same lt =
    let v : ℕ = x.hi + 1 in
    let there : has (x ∷ xs) v ≡ true = same v ∙ or_left (in_part y v) (has ys v) (in_part-from y v (omega (arith, a)) (omega arith)) in
    elim (or_cases (in_part x v) (has xs v) there) [
      | inl t ↦ let p = in_part-true x v t in omega arith
      | inr t ↦ both_ways (has xs v) (after_first x xs a.2 v (omega arith)) t
    ]

pub ivs_same : (l m : ℕ) (xs ys : List Iv) → IsRegularFrom l xs → IsRegularFrom m ys → ((v : ℕ) → has xs v ≡ has ys v) → xs ≡ ys
ivs_same l m [] [] a b same = refl
ivs_same l m [] (y ∷ ys) a b same = let e = same y.lo ∙ or_left (in_part y y.lo) (has ys y.lo) (in_part-from y y.lo (omega arith) b.1) in absurd (cc)
ivs_same l m (x ∷ xs) [] a b same = let e = sym (same x.lo) ∙ or_left (in_part x x.lo) (has xs x.lo) (in_part-from x x.lo (omega arith) a.1) in absurd (cc)
ivs_same l m (x ∷ xs) (y ∷ ys) a b same =
    let a' : IsRegularFrom 0 (x ∷ xs) = (omega arith, a.1, a.2) in
    let b' : IsRegularFrom 0 (y ∷ ys) = (omega arith, b.1, b.2) in
    let back : (v : ℕ) → has (y ∷ ys) v ≡ has (x ∷ xs) v = λ v. sym (same v) in
    let p : y.lo ≤ x.lo = first_lo 0 x y xs ys a' b' same in
    let q : x.lo ≤ y.lo = first_lo 0 y x ys xs b' a' back in
    let lo : x.lo ≡ y.lo = omega arith in
    let hi : x.hi ≡ y.hi = elim (cases_order x.hi y.hi) [
      | inl e ↦ e
      | inr d ↦ elim d [ inl lt ↦ absurd (first_hi 0 x y xs ys a' b' lo same lt) | inr gt ↦ absurd (first_hi 0 y x ys xs b' a' (sym lo) back gt) ]
    ] in
    let one : x ≡ y = iv_same x y lo hi in
    let rest : (v : ℕ) → has xs v ≡ has ys v = λ v. elim (cases_Bool (in_part x v)) [
      | inl t ↦ let r = in_part-true x v t in after_first x xs a.2 v (omega arith) ∙ sym (after_first y ys b.2 v (omega arith))
      | inr f ↦ let g : in_part y v ≡ false = ap (λ k. in_part k v) (sym one) ∙ f in
          let s : (in_part x v || has xs v) ≡ (in_part y v || has ys v) = same v in
          (rw f at (rw g at s))
    ] in
    ap (λ k. k ∷ xs) one ∙ ap (λ ks. y ∷ ks) (ivs_same (x.hi + 2) (y.hi + 2) xs ys a.2 b.2 rest)
