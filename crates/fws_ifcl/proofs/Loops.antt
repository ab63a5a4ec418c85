-- A way from a chain to a chain that it reaches passes each chain once, so it has no more steps than there are chains.
use Rattle.std.proofs.Common.{◌≡◌, ℕ, zero, suc, ◌+◌, ◌<◌, ◌≤◌, Bool, true, false, ◌||◌, eqb, List, [], ◌∷◌, length, Contains, arith, refl, sym, ap, ◌∙◌, subst, ⊎_elim, eqb-true, eq-eqb}
use Rattle.std.specs.List.{list_any, IsDistinct, AllByRecursion}
use Rattle.std.specs.Option.{option_map_or}
use Rattle.std.proofs.lemmas.Bool.{false≢true, cases_lt, or_cases, or_from, or_parts, or_left, or_right}
use Rattle.std.proofs.lemmas.List.Folds.{Any-from_list_any, list_any_at}
use Rattle.std.proofs.lemmas.Map.Keys.{IsDistinct-cons}
use Rattle.std.proofs.lemmas.Map.Steps.{length-le_from_distinct_below}
use Rattle.std.proofs.lemmas.Option.{slice_get_past}
use Rattle.fws_ifcl.specs.declared.diagram.Chain.{Chain}
use Rattle.fws_ifcl.specs.Loops.{Reaches, names, names_first, LoopsAreFound, LoopsAreReal, NoLoop}
use Rattle.fws_ifcl.specs.Refusals.{all_named, named_in, reaches}

-- Tests of elements

pub any_at : (test : ℕ → Bool) (xs : List ℕ) (x : ℕ) → Contains xs x → test x ≡ true → list_any test xs ≡ true
any_at test xs x at h = list_any_at test xs at.0 x at.1 (ap test at.2 ∙ h)

pub element_found : (test : ℕ → Bool) (xs : List ℕ) → list_any test xs ≡ true → (x : ℕ) × Contains xs x × (test x ≡ true)
element_found test xs h = let a = Any-from_list_any test xs h in (a.1, (a.0, a.2, a.3), a.4)

all_apart : (x : ℕ) (xs : List ℕ) → list_any (eqb x) xs ≡ false → AllByRecursion (λ y. eqb x y ≡ false) xs
all_apart x [] h = tt
all_apart x (y ∷ ys) h = let both = or_parts (eqb x y) (list_any (eqb x) ys) h in (both.0, all_apart x ys both.1)

-- a number past the chains names nothing
pub only_chains_name : (chains : List Chain) (a b : ℕ) → Contains (named_in chains a) b → a < length chains
only_chains_name chains a b h = ⊎_elim (λ lt. lt) past (cases_lt a (length chains))
  where
    past : length chains ≤ a → a < length chains
    past le =
        let none : Contains {X = ℕ} [] b = subst (λ o. Contains (all_named (option_map_or (λ chain. chain.rules) o [])) b) (slice_get_past chains a le) h in
        let lt : none.0 < 0 = none.1 in
        absurd (omega arith)

-- Chains that were passed

-- chains of the list, each once
pub record Passed (chains : List Chain) (via : List ℕ) : Type 0 where
  pub distinct : IsDistinct eqb via
  pub are_chains : (q : ℕ) → list_any (eqb q) via ≡ true → q < length chains

pub none_passed : (chains : List Chain) → Passed chains []
unfolding IsDistinct
none_passed chains = record { distinct = tt; are_chains = λ q h. absurd (false≢true h) }

-- a chain more
pub one_passed : (chains : List Chain) (via : List ℕ) (c : ℕ) → Passed chains via → c < length chains → list_any (eqb c) via ≡ false → Passed chains (c ∷ via)
one_passed chains via c passed lt off = record {
  distinct = IsDistinct-cons eqb c via (all_apart c via off) passed.distinct;
  are_chains = λ q h. ⊎_elim (λ same. subst (λ x. x < length chains) (sym (eqb-true q c same)) lt) (passed.are_chains q) (or_cases (eqb q c) (list_any (eqb q) via) h);
}

-- where so many were passed as there are, none is left
pub all_passed : (chains : List Chain) (via : List ℕ) (c : ℕ) → Passed chains via → length chains ≤ length via → c < length chains → list_any (eqb c) via ≡ false → ⊥
all_passed chains via c passed le lt off =
    let more = one_passed chains via c passed lt off in
    let few : length (c ∷ via) ≤ length chains = length-le_from_distinct_below (c ∷ via) (length chains) more.distinct more.are_chains in
    let longer : suc (length via) ≤ length chains = few in
    omega arith

-- Ways

-- a way from a chain to a chain, whose steps leave from none of these
data Way (chains : List Chain) (via : List ℕ) : ℕ → ℕ → Type 0 where
  last_step : {a b : ℕ} → list_any (eqb a) via ≡ false → Contains (named_in chains a) b → Way chains via a b
  first_step : {a b c : ℕ} → list_any (eqb a) via ≡ false → Contains (named_in chains a) b → Way chains via b c → Way chains via a c

way_of_steps : {chains : List Chain} {a b : ℕ} → Reaches chains a b → Way chains [] a b
way_of_steps (names e) = last_step refl e
way_of_steps (names_first e r) = first_step refl e (way_of_steps r)

leaves_new : {chains : List Chain} {via : List ℕ} {a b : ℕ} → Way chains via a b → list_any (eqb a) via ≡ false
leaves_new (last_step off e) = off
leaves_new (first_step off e w) = off

leaves_chain : {chains : List Chain} {via : List ℕ} {a b : ℕ} → Way chains via a b → a < length chains
leaves_chain {chains} (last_step {a = x} {b = y} off e) = only_chains_name chains x y e
leaves_chain {chains} (first_step {a = x} {b = y} off e w) = only_chains_name chains x y e

-- a way from x to t leaves not from a, or else its part behind the last step from a doesn't
data Cut (chains : List Chain) (via : List ℕ) (a x t : ℕ) : Type 0 where
  apart : Way chains (a ∷ via) x t → Cut chains via a x t
  ends : Contains (named_in chains a) t → Cut chains via a x t
  goes_on : (b : ℕ) → Contains (named_in chains a) b → Way chains (a ∷ via) b t → Cut chains via a x t

cut_last : (chains : List Chain) (via : List ℕ) (a x t : ℕ) → list_any (eqb x) via ≡ false → Contains (named_in chains x) t
    → (same : Bool) → eqb x a ≡ same → Cut chains via a x t
cut_last chains via a x t off e true is = ends (subst (λ y. Contains (named_in chains y) t) (eqb-true x a is) e)
cut_last chains via a x t off e false is = apart (last_step (or_from (eqb x a) (list_any (eqb x) via) is off) e)

cut_first : (chains : List Chain) (via : List ℕ) (a x y t : ℕ) → list_any (eqb x) via ≡ false → Contains (named_in chains x) y → Cut chains via a y t
    → (same : Bool) → eqb x a ≡ same → Cut chains via a x t
cut_first chains via a x y t off e (apart w) true is = goes_on y (subst (λ z. Contains (named_in chains z) y) (eqb-true x a is) e) w
cut_first chains via a x y t off e (apart w) false is = apart (first_step (or_from (eqb x a) (list_any (eqb x) via) is off) e w)
cut_first chains via a x y t off e (ends last) same is = ends last
cut_first chains via a x y t off e (goes_on b next w) same is = goes_on b next w

cut : (chains : List Chain) (via : List ℕ) (a : ℕ) {x t : ℕ} → Way chains via x t → Cut chains via a x t
cut chains via a (last_step {a = x} {b = t} off e) = cut_last chains via a x t off e (eqb x a) refl
cut chains via a (first_step {a = x} {b = y} {c = t} off e w) = cut_first chains via a x y t off e (cut chains via a w) (eqb x a) refl

-- behind the last step from x one step less is wanted
reached_behind : (chains : List Chain) (via : List ℕ) (n x t : ℕ) → ((b : ℕ) → Way chains (x ∷ via) b t → reaches chains n b t ≡ true)
    → Cut chains via x x t → reaches chains (suc n) x t ≡ true
reached_behind chains via n x t behind (apart w) =
    absurd (false≢true (sym (leaves_new w) ∙ or_left (eqb x x) (list_any (eqb x) via) (eq-eqb x x refl)))
reached_behind chains via n x t behind (ends e) =
    any_at (λ c. eqb c t || reaches chains n c t) (named_in chains x) t e (or_left (eqb t t) (reaches chains n t t) (eq-eqb t t refl))
reached_behind chains via n x t behind (goes_on b e w) =
    any_at (λ c. eqb c t || reaches chains n c t) (named_in chains x) b e (or_right (eqb b t) (reaches chains n b t) (behind b w))

-- so many steps are enough as there are chains left
reached_within : (chains : List Chain) (n : ℕ) (via : List ℕ) → Passed chains via → length chains ≤ n + length via
    → (x t : ℕ) → Way chains via x t → reaches chains n x t ≡ true
reached_within chains zero via passed le x t w =
    let few : length chains ≤ length via = omega arith in
    absurd (all_passed chains via x passed few (leaves_chain w) (leaves_new w))
reached_within chains (suc n) via passed le x t w =
    let more : length chains ≤ n + length (x ∷ via) = omega arith in
    reached_behind chains via n x t (λ b. reached_within chains n (x ∷ via) (one_passed chains via x passed (leaves_chain w) (leaves_new w)) more b t)
    (cut chains via x w)

pub loops_found : LoopsAreFound
loops_found chains c r =
    let enough : length chains ≤ length chains + 0 = omega arith in
    reached_within chains (length chains) [] (none_passed chains) enough c c (way_of_steps r)

-- The other direction

reached_really : (chains : List Chain) (n a b : ℕ) → reaches chains n a b ≡ true → Reaches chains a b
reached_really chains zero a b h = absurd (false≢true h)
reached_really chains (suc n) a b h =
    let found = element_found (λ c. eqb c b || reaches chains n c b) (named_in chains a) h in
    ⊎_elim (λ same. names (subst (λ c. Contains (named_in chains a) c) (eqb-true found.0 b same) found.1))
    (λ more. names_first found.1 (reached_really chains n found.0 b more))
    (or_cases (eqb found.0 b) (reaches chains n found.0 b) found.2)

pub loops_real : LoopsAreReal
loops_real chains c h = reached_really chains (length chains) c c h

pub no_loop_reached : (chains : List Chain) → NoLoop chains → (c : ℕ) → Reaches chains c c → ⊥
no_loop_reached chains none c r = false≢true (sym (none c) ∙ loops_found chains c r)
