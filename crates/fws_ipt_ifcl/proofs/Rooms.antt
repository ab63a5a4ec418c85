-- A walk that passes each chain once has room for the chains that it passes.
use Rattle.std.proofs.Common.{◌≡◌, ℕ, suc, ◌+◌, ◌<◌, ◌≤◌, true, false, eqb, List, [], ◌∷◌, length, arith, sym, subst, ⊎_elim, eqb-true}
use Rattle.std.specs.List.{list_any, IsDistinct, AllByRecursion}
use Rattle.std.proofs.lemmas.Bool.{false≢true, or_cases, or_parts, true_from_ne_false}
use Rattle.std.proofs.lemmas.Map.Keys.{IsDistinct-cons}
use Rattle.std.proofs.lemmas.Map.Steps.{length-le_from_distinct_below}

all_apart : (x : ℕ) (xs : List ℕ) → list_any (eqb x) xs ≡ false → AllByRecursion (λ y. eqb x y ≡ false) xs
all_apart x [] h = tt
all_apart x (y ∷ ys) h = let both = or_parts (eqb x y) (list_any (eqb x) ys) h in (both.0, all_apart x ys both.1)

-- of so many chains these were passed, each once, and no fewer than n may still be entered than there are others
pub record HasRoom (many : ℕ) (path : List ℕ) (n : ℕ) : Type 0 where
  pub distinct : IsDistinct eqb path
  pub are_chains : (q : ℕ) → list_any (eqb q) path ≡ true → q < many
  pub room : many ≤ n + length path

-- at the beginning
pub begins : (many n : ℕ) → many ≤ n → HasRoom many [] n
unfolding IsDistinct
begins many n le = record { distinct = tt; are_chains = λ q h. absurd (false≢true h); room = omega (arith, le) }

-- a chain more
pub one_more : (many : ℕ) (path : List ℕ) (n c : ℕ) → HasRoom many path (suc n) → c < many → list_any (eqb c) path ≡ false → HasRoom many (c ∷ path) n
one_more many path n c has lt off =
    let wide : many ≤ suc n + length path = has.room in
    record {
      distinct = IsDistinct-cons eqb c path (all_apart c path off) has.distinct;
      are_chains = λ q h. ⊎_elim (λ same. subst (λ x. x < many) (sym (eqb-true q c same)) lt) (has.are_chains q) (or_cases (eqb q c) (list_any (eqb q) path) h);
      room = omega (arith, wide);
    }

-- where no more may be entered, every chain was passed
pub all_passed : (many : ℕ) (path : List ℕ) (c : ℕ) → HasRoom many path 0 → c < many → list_any (eqb c) path ≡ true
all_passed many path c has lt =
    true_from_ne_false (list_any (eqb c) path)
    (λ off. let wide : many ≤ 0 + length path = has.room in
    let few : length (c ∷ path) ≤ many = length-le_from_distinct_below (c ∷ path) many (IsDistinct-cons eqb c path (all_apart c path off) has.distinct)
    (λ q h. ⊎_elim (λ same. subst (λ x. x < many) (sym (eqb-true q c same)) lt) (has.are_chains q) (or_cases (eqb q c) (list_any (eqb q) path) h)) in
    let longer : suc (length path) ≤ many = few in
    omega (arith, wide, longer))
