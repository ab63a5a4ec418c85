-- What is found by a name is the first of that name.
use Rattle.std.proofs.Common.{◌≡◌, ℕ, suc, ◌+◌, ◌<◌, Bool, true, false, cond, Option, Some, None, List, [], ◌∷◌, length, find, slice_get, IfSome, arith, refl, sym, ap, ◌∙◌}
use Rattle.std.specs.List.{position_from}

pub none : (i : ℕ) → ◌≡◌ {A = Option ℕ} None (Some i) → ⊥
none i h = cc

pub one : (m n : ℕ) → Some m ≡ Some n → m ≡ n
one m n h = cc

module _ {X : Type 0} (test : X → Bool) where
  -- the element that is found stands at a place, counted from the first one's
  abbrev pub Stood : ℕ → ℕ → List X → Option X → Type 0
  Stood at i xs found = (k : ℕ) × (i ≡ at + k) × (k < length xs) × (slice_get xs k ≡ found)

  first_stood : (at i : ℕ) (x : X) (xs : List X) (b : Bool) → (position_from test (at + 1) xs ≡ Some i → Stood (at + 1) i xs (find test xs))
      → cond b (Some at) (position_from test (at + 1) xs) ≡ Some i → Stood at i (x ∷ xs) (cond b (Some x) (find test xs))
  first_stood at i x xs true later is = let same : at ≡ i = one at i is in (0, omega (arith, same), omega arith, refl)
  first_stood at i x xs false later is = let h = later is in (suc h.0, omega (arith, h.1), omega (arith, h.2), h.3)

  pub found_at : (at i : ℕ) (xs : List X) → position_from test at xs ≡ Some i → Stood at i xs (find test xs)
  found_at at i [] is = absurd (none i is)
  found_at at i (x ∷ xs) is = first_stood at i x xs (test x) (found_at (at + 1) i xs) is

  first_absent : (at : ℕ) (x : X) (xs : List X) (b : Bool) → (position_from test (at + 1) xs ≡ None → find test xs ≡ None)
      → cond b (Some at) (position_from test (at + 1) xs) ≡ None → cond b (Some x) (find test xs) ≡ None
  first_absent at x xs true later is = cc
  first_absent at x xs false later is = later is

  pub absent : (at : ℕ) (xs : List X) → position_from test at xs ≡ None → find test xs ≡ None
  absent at [] is = refl
  absent at (x ∷ xs) is = first_absent at x xs (test x) (absent (at + 1) xs) is

  -- the place lies within the list
  pub within : (xs : List X) (place : Option ℕ) → place ≡ position_from test 0 xs → IfSome place (λ n. n < length xs)
  within xs None is = tt
  within xs (Some i) is = let h = found_at 0 i xs (sym is) in omega (arith, h.1, h.2)

  -- what stands there is found
  pub found_there : (xs : List X) (i : ℕ) (x : X) → Some i ≡ position_from test 0 xs → slice_get xs i ≡ Some x → find test xs ≡ Some x
  found_there xs i x is there =
      let h = found_at 0 i xs (sym is) in
      let same : h.0 ≡ i = omega (arith, h.1) in
      sym h.3 ∙ ap (slice_get xs) same ∙ there
