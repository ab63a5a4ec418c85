-- Which numbers are told of places, and which of so many are never told.
use Rattle.std.proofs.Common.{◌≡◌, ℕ, ◌+◌, ◌<◌, Bool, true, false, ◌&&◌, ◌||◌, not, cond, nat_eq, Option, List, [], ◌∷◌, ◌++◌, map, get_or, Contains, refl, sym, ◌∙◌, ap, subst, arith, ⊎_elim}
use Rattle.std.proofs.lemmas.Bool.{and_parts, and_from, or_cases, or_left, or_right, eqb-true, eq-eqb, false≢true, not-true}
use Rattle.std.proofs.lemmas.List.Folds.{list_any-append, list_any_at}
use Rattle.std.proofs.lemmas.List.{append-nil, map-id}
use Rattle.std.proofs.lemmas.List.FromFn.{length-range_with_len, get_or-range_with_len, filter_of_map_range_with_len_more}
use Rattle.std.proofs.lemmas.List.Kept.{IsStrictlyIncreasing-filter}
use Rattle.std.proofs.lemmas.Map.Views.{Contains-from_any}
use Rattle.std.specs.List.{filter, list_any, range_with_len}
use Rattle.std.specs.List.Sorted.{IsStrictlyIncreasing}
use Rattle.fws_net.specs.declared.connection.Kind.{Kind}
use Rattle.fws_net.specs.declared.packet.Packet.{Packet}
use Rattle.fws_net.specs.declared.site.Site.{Site}
use Rattle.fws_flat.specs.declared.code.Flat.{Flat}
use Rattle.fws_flat.specs.Uses.{used_places}
use Rattle.fws_ifcl.specs.declared.diagram.Place.{Place}
use Rattle.fws_ifcl.specs.declared.diagram.Spot.{Spot}
use Rattle.fws_ifcl.specs.Spots.{numbers_at, told}
use Rattle.fws_ifcl.specs.Uses.{is_place}
use Rattle.fws_unfold.specs.Told.{told as stood_for}
use Rattle.fws_dead.specs.Unused.{AreUnused, UseAlike}
use Rattle.fws_dead.specs.Used.{has_spot, AreUsed, Case}

-- ---- members of lists of numbers

pub any_at : (test : ℕ → Bool) (x : ℕ) (xs : List ℕ) → Contains xs x → test x ≡ true → list_any test xs ≡ true
any_at test x xs at h = list_any_at test xs at.0 x at.1 (ap test at.2 ∙ h)

pub is_there : (x : ℕ) (xs : List ℕ) → Contains xs x → list_any (nat_eq x) xs ≡ true
is_there x xs h = any_at (nat_eq x) x xs h (eq-eqb x x refl)

pub there : (x : ℕ) (xs : List ℕ) → list_any (nat_eq x) xs ≡ true → Contains xs x
there x xs h = Contains-from_any {eq = nat_eq} eqb-true x xs h

-- ---- numbers at spots

-- a spot that is taken, or isn't
taken : (b : Bool) (n : ℕ) (s : Spot) (kept : List Spot)
    → list_any (nat_eq n) (map (λ (spot : Spot). spot.rule) (cond b (s ∷ kept) kept)) ≡ ((nat_eq n s.rule && b) || list_any (nat_eq n) (map (λ (spot : Spot). spot.rule) kept))
taken true n s kept = ap (λ c. c || list_any (nat_eq n) (map (λ (spot : Spot). spot.rule) kept)) (with_true (nat_eq n s.rule))
  where
    with_true : (c : Bool) → c ≡ (c && true)
    with_true true = refl
    with_true false = refl
taken false n s kept = ap (λ c. c || list_any (nat_eq n) (map (λ (spot : Spot). spot.rule) kept)) (with_false (nat_eq n s.rule))
  where
    with_false : (c : Bool) → false ≡ (c && false)
    with_false true = refl
    with_false false = refl

numbers_told : (spots : List Spot) (at : Place) (n : ℕ) → list_any (nat_eq n) (numbers_at spots at) ≡ list_any (λ spot. nat_eq n spot.rule && is_place spot.at at) spots
numbers_told [] at n = refl
numbers_told (s ∷ ss) at n =
    taken (is_place s.at at) n s (filter (λ spot. is_place spot.at at) ss) ∙ ap (λ b. (nat_eq n s.rule && is_place s.at at) || b) (numbers_told ss at n)

no_place : (xs : List Spot) (n : ℕ) → list_any (λ (spot : Spot). nat_eq n spot.rule && false) xs ≡ false
no_place [] n = refl
no_place (s ∷ ss) n = grouped (nat_eq n s.rule) (list_any (λ (spot : Spot). nat_eq n spot.rule && false) ss) (no_place ss n)
  where
    grouped : (a b : Bool) → b ≡ false → ((a && false) || b) ≡ false
    grouped true b e = e
    grouped false b e = e

exchanged : (a b c d : Bool) → ((a || b) || (c || d)) ≡ ((a || c) || (b || d))
exchanged true b c d = refl
exchanged false true true d = refl
exchanged false true false d = refl
exchanged false false true d = refl
exchanged false false false d = refl

split_and : (a b c : Bool) → (a && (b || c)) ≡ ((a && b) || (a && c))
split_and true b c = refl
split_and false b c = refl

-- two tests of spots, as one
either_spot : (f g h : Spot → Bool) → ((s : Spot) → h s ≡ (f s || g s)) → (spots : List Spot) → (list_any f spots || list_any g spots) ≡ list_any h spots
either_spot f g h both [] = refl
either_spot f g h both (s ∷ ss) =
    exchanged (f s) (list_any f ss) (g s) (list_any g ss)
    ∙ ap (λ b. b || (list_any f ss || list_any g ss)) (sym (both s))
    ∙ ap (λ b. h s || b) (either_spot f g h both ss)

-- a number is told exactly where a spot of it is at one of the places
pub any_told : (spots : List Spot) (places : List Place) (n : ℕ) → list_any (nat_eq n) (told spots places) ≡ has_spot (λ at. list_any (is_place at) places) spots n
any_told spots [] n = sym (no_place spots n)
any_told spots (p ∷ ps) n =
    list_any-append (nat_eq n) (numbers_at spots p) (told spots ps)
    ∙ ap (λ b. b || list_any (nat_eq n) (told spots ps)) (numbers_told spots p n)
    ∙ ap (λ b. list_any (λ spot. nat_eq n spot.rule && is_place spot.at p) spots || b) (any_told spots ps n)
    ∙ either_spot (λ spot. nat_eq n spot.rule && is_place spot.at p) (λ spot. nat_eq n spot.rule && list_any (is_place spot.at) ps)
    (λ spot. nat_eq n spot.rule && (is_place spot.at p || list_any (is_place spot.at) ps)) (λ spot. split_and (nat_eq n spot.rule) (is_place spot.at p) (list_any (is_place spot.at) ps)) spots

-- ---- spots of a rule at places that are used in some case

module _ {Case : Type 0} (used : Case → List Place) (has : Place → Bool) where
  pub told_by_case : ((at : Place) → has at ≡ true → (c : Case) × (list_any (is_place at) (used c) ≡ true))
      → (spots : List Spot) (n : ℕ) → has_spot has spots n ≡ true → (c : Case) × (has_spot (λ at. list_any (is_place at) (used c)) spots n ≡ true)
  told_by_case found [] n h = absurd (false≢true h)
  told_by_case found (s ∷ ss) n h = ⊎_elim
      (λ e. (
      let parts = and_parts (nat_eq n s.rule) (has s.at) e in
      let hit = found s.at parts.1 in (
        hit.0,
        or_left (nat_eq n s.rule && list_any (is_place s.at) (used hit.0)) (has_spot (λ at. list_any (is_place at) (used hit.0)) ss n)
            (and_from (nat_eq n s.rule) (list_any (is_place s.at) (used hit.0)) parts.0 hit.1),
      )
      ))
      (λ e. (
      let hit = told_by_case found ss n e in
      (hit.0, or_right (nat_eq n s.rule && list_any (is_place s.at) (used hit.0)) (has_spot (λ at. list_any (is_place at) (used hit.0)) ss n) hit.1)
      ))
      (or_cases (nat_eq n s.rule && has s.at) (has_spot has ss n) h)

  pub case_told : ((c : Case) (at : Place) → list_any (is_place at) (used c) ≡ true → has at ≡ true)
      → (spots : List Spot) (n : ℕ) (c : Case) → has_spot (λ at. list_any (is_place at) (used c)) spots n ≡ true → has_spot has spots n ≡ true
  case_told all [] n c h = absurd (false≢true h)
  case_told all (s ∷ ss) n c h = ⊎_elim
      (λ e. (
      let parts = and_parts (nat_eq n s.rule) (list_any (is_place s.at) (used c)) e in
      or_left (nat_eq n s.rule && has s.at) (has_spot has ss n) (and_from (nat_eq n s.rule) (has s.at) parts.0 (all c s.at parts.1))
      ))
      (λ e. or_right (nat_eq n s.rule && has s.at) (has_spot has ss n) (case_told all ss n c e))
      (or_cases (nat_eq n s.rule && list_any (is_place s.at) (used c)) (has_spot (λ at. list_any (is_place at) (used c)) ss n) h)

-- ---- numbers that pass a test

module _ (test : ℕ → Bool) (n : ℕ) where
  kept_cons : (b : Bool) (x : ℕ) (xs kept : List ℕ) → test x ≡ b → (list_any (nat_eq n) kept ≡ true → (test n ≡ true) × (list_any (nat_eq n) xs ≡ true))
      → list_any (nat_eq n) (cond b (x ∷ kept) kept) ≡ true → (test n ≡ true) × ((nat_eq n x || list_any (nat_eq n) xs) ≡ true)
  kept_cons true x xs kept e rest h = ⊎_elim
      (λ same. (ap test (eqb-true n x same) ∙ e, or_left (nat_eq n x) (list_any (nat_eq n) xs) same))
      (λ later. ((rest later).0, or_right (nat_eq n x) (list_any (nat_eq n) xs) (rest later).1))
      (or_cases (nat_eq n x) (list_any (nat_eq n) kept) h)
  kept_cons false x xs kept e rest h = ((rest h).0, or_right (nat_eq n x) (list_any (nat_eq n) xs) (rest h).1)

  -- what the filter keeps passes the test, and is of the list
  pub kept_from : (xs : List ℕ) → list_any (nat_eq n) (filter test xs) ≡ true → (test n ≡ true) × (list_any (nat_eq n) xs ≡ true)
  kept_from [] h = absurd (false≢true h)
  kept_from (x ∷ xs) h = kept_cons (test x) x xs (filter test xs) refl (kept_from xs) h

  grown : (b : Bool) (x : ℕ) (kept : List ℕ) → list_any (nat_eq n) kept ≡ true → list_any (nat_eq n) (cond b (x ∷ kept) kept) ≡ true
  grown true x kept h = or_right (nat_eq n x) (list_any (nat_eq n) kept) h
  grown false x kept h = h

  first_kept : (b : Bool) (x : ℕ) (kept : List ℕ) → b ≡ true → nat_eq n x ≡ true → list_any (nat_eq n) (cond b (x ∷ kept) kept) ≡ true
  first_kept true x kept e same = or_left (nat_eq n x) (list_any (nat_eq n) kept) same
  first_kept false x kept e same = absurd (false≢true e)

  -- what passes the test and is of the list is kept
  pub kept_if : (xs : List ℕ) → test n ≡ true → list_any (nat_eq n) xs ≡ true → list_any (nat_eq n) (filter test xs) ≡ true
  kept_if [] e h = absurd (false≢true h)
  kept_if (x ∷ xs) e h = ⊎_elim
      (λ same. first_kept (test x) x (filter test xs) (ap test (sym (eqb-true n x same)) ∙ e) same)
      (λ later. grown (test x) x (filter test xs) (kept_if xs e later))
      (or_cases (nat_eq n x) (list_any (nat_eq n) xs) h)

-- ---- numbers below a bound

pub below : (n m : ℕ) → list_any (nat_eq n) (range_with_len 0 m) ≡ true → n < m
below n m h =
    let at = there n (range_with_len 0 m) h in
    let lt : at.0 < m = subst (λ (l : ℕ). at.0 < l) (length-range_with_len 0 m) at.1 in
    let is : 0 + at.0 ≡ n = sym (get_or-range_with_len 0 m at.0 n lt) ∙ at.2 in
    omega arith

pub of_range : (n m : ℕ) → n < m → list_any (nat_eq n) (range_with_len 0 m) ≡ true
of_range n m lt =
    is_there n (range_with_len 0 m) (n, subst (λ (l : ℕ). n < l) (sym (length-range_with_len 0 m)) lt, (let e : get_or (range_with_len 0 m) n n ≡ 0 + n = get_or-range_with_len 0 m n n lt in omega arith))

range_rises : (m : ℕ) → IsStrictlyIncreasing (range_with_len 0 m)
range_rises m k lt =
    let high : k + 1 < m = subst (λ (l : ℕ). k + 1 < l) (length-range_with_len 0 m) lt in
    let less : k < m = omega arith in
    let a : get_or (range_with_len 0 m) k 0 ≡ 0 + k = get_or-range_with_len 0 m k 0 less in
    let b : get_or (range_with_len 0 m) (k + 1) 0 ≡ 0 + (k + 1) = get_or-range_with_len 0 m (k + 1) 0 high in
    omega arith

-- the numbers that aren't marked, of so many
abbrev pub unmarked : List Bool → ℕ → List ℕ
unmarked marks rules = filter (λ n. not (get_or marks n false)) (range_with_len 0 rules)

one_more : (test : ℕ → Bool) (n : ℕ) → filter test (range_with_len 0 (n + 1)) ≡ filter test (range_with_len 0 n) ++ cond (test n) (n ∷ []) []
one_more test n =
    ap (filter test) (sym (map-id (range_with_len 0 (n + 1))))
    ∙ filter_of_map_range_with_len_more test (λ x. x) 0 n n (omega arith)
    ∙ ap (λ (l : List ℕ). filter test l ++ cond (test n) (n ∷ []) []) (map-id (range_with_len 0 n))

-- one more number
pub number_put : (marks : List Bool) (n : ℕ) (numbers : List ℕ) → numbers ≡ unmarked marks n → get_or marks n false ≡ false → numbers ++ n ∷ [] ≡ unmarked marks (n + 1)
number_put marks n numbers is e =
    ap (λ (l : List ℕ). l ++ n ∷ []) is ∙ ap (λ (b : Bool). unmarked marks n ++ cond (not b) (n ∷ []) []) (sym e) ∙ sym (one_more (λ k. not (get_or marks k false)) n)

pub number_passed : (marks : List Bool) (n : ℕ) (numbers : List ℕ) → numbers ≡ unmarked marks n → get_or marks n false ≡ true → numbers ≡ unmarked marks (n + 1)
number_passed marks n numbers is e =
    is ∙ sym (append-nil (unmarked marks n)) ∙ ap (λ (b : Bool). unmarked marks n ++ cond (not b) (n ∷ []) []) (sym e) ∙ sym (one_more (λ k. not (get_or marks k false)) n)

pub unmarked_rise : (marks : List Bool) (rules : ℕ) → IsStrictlyIncreasing (unmarked marks rules)
unmarked_rise marks rules = IsStrictlyIncreasing-filter (λ n. not (get_or marks n false)) (range_with_len 0 rules) (range_rises rules)

-- ---- numbers that are never told

module _ {Case : Type 0} (used : Case → List Place) (has : Place → Bool) (spots : List Spot) (rules : ℕ) (marks : List Bool)
    (found : (at : Place) → has at ≡ true → (c : Case) × (list_any (is_place at) (used c) ≡ true))
    (all : (c : Case) (at : Place) → list_any (is_place at) (used c) ≡ true → has at ≡ true)
    (marked : (n : ℕ) → n < rules → get_or marks n false ≡ has_spot has spots n) where
  abbrev free : ℕ → Bool
  free n = not (get_or marks n false)

  marks_told : (n : ℕ) (c : Case) → n < rules → Contains (told spots (used c)) n → get_or marks n false ≡ true
  marks_told n c lt m =
      marked n lt ∙ case_told used has all spots n c (sym (any_told spots (used c) n) ∙ is_there n (told spots (used c)) m)

  pub never_told : (n : ℕ) → Contains (unmarked marks rules) n → (n < rules) × ((c : Case) → Contains (told spots (used c)) n → ⊥)
  never_told n h =
      let k = kept_from free n (range_with_len 0 rules) (is_there n (unmarked marks rules) h) in
      let lt : n < rules = below n rules k.1 in
      (lt, λ c m. absurd (false≢true (sym (not-true (get_or marks n false) k.0) ∙ marks_told n c lt m)))

  not_marked : (b : Bool) (n : ℕ) → has_spot has spots n ≡ b → ((c : Case) → Contains (told spots (used c)) n → ⊥) → b ≡ false
  not_marked true n e none =
      let hit = told_by_case used has found spots n e in
      absurd (none hit.0 (there n (told spots (used hit.0)) (any_told spots (used hit.0) n ∙ hit.1)))
  not_marked false n e none = refl

  pub all_told : (n : ℕ) → (n < rules) × ((c : Case) → Contains (told spots (used c)) n → ⊥) → Contains (unmarked marks rules) n
  all_told n h =
      let off : get_or marks n false ≡ false = marked n h.0 ∙ not_marked (has_spot has spots n) n refl h.1 in
      there n (unmarked marks rules) (kept_if free n (range_with_len 0 rules) (ap not off) (of_range n rules h.0))

-- ---- packets of the site

-- what is found and marked by the places that packets of the site use
pub are_unused : (f : Flat) (places : List (Option Place)) (site : Site) (spots : List Spot) (rules : ℕ) (has : Place → Bool) (marks : List Bool) (numbers : List ℕ)
    → AreUsed f places site has → ((n : ℕ) → n < rules → get_or marks n false ≡ has_spot has spots n) → numbers ≡ unmarked marks rules
    → AreUnused (λ p k. told spots (stood_for places (used_places f site p k))) site rules numbers
are_unused f places site spots rules has marks numbers are marked is =
    let used : Case site → List Place = λ (c : Case site). stood_for places (used_places f site c.0 c.1) in
    let made : AreUnused (λ p k. told spots (stood_for places (used_places f site p k))) site rules (unmarked marks rules) = record {
      ascending = unmarked_rise marks rules;
      are = λ n. (
        λ h. (let r = never_told used has spots rules marks are.found are.all marked n h in (r.0, λ p k w m. r.1 (p, k, w) m)),
        λ h. all_told used has spots rules marks are.found are.all marked n (h.0, λ c m. h.1 c.0 c.1 c.2 m),
      );
    } in
    subst (λ (l : List ℕ). AreUnused (λ p k. told spots (stood_for places (used_places f site p k))) site rules l) (sym is) made

-- where packets of the site use the same rules, the same ones aren't used
pub unused_alike : (site : Site) (rules : ℕ) (numbers : List ℕ) (used other : Packet → Kind → List ℕ) → UseAlike site used other → AreUnused used site rules numbers → AreUnused other site rules numbers
unused_alike site rules numbers used other same u = record {
  ascending = u.ascending;
  are = λ n. (
    λ h. (((u.are n).0 h).0, λ p k w m. ((u.are n).0 h).1 p k w (subst (λ (l : List ℕ). Contains l n) (sym (same p k w)) m)),
    λ h. (u.are n).1 (h.0, λ p k w m. h.1 p k w (subst (λ (l : List ℕ). Contains l n) (same p k w) m)),
  );
}
