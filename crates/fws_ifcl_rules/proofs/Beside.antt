-- Spots that are made of numbers beside rules.
use Rattle.std.proofs.Common.{◌≡◌, ℕ, zero, suc, ◌+◌, ◌<◌, ◌≤◌, Bool, true, false, cond, ◌&&◌, nat_eq, nat_lt, Some, List, [], ◌∷◌, ◌++◌, length, map, get_or, slice_get, arith, refl, sym, ap, ◌∙◌, subst, append_assoc, append-nil}
use Rattle.std.proofs.lemmas.Bool.{ne_eqb, eq-eqb, lt-ltb, and_from, and_parts}
use Rattle.std.proofs.lemmas.List.{map-append}
use Rattle.std.proofs.lemmas.List.Elements.{filter-append}
use Rattle.std.proofs.lemmas.List.Folds.{list_all-append}
use Rattle.std.specs.List.{filter, list_all}
use Rattle.std.specs.Option.{option_map_or}
use Rattle.fws_ifcl.specs.declared.diagram.Chain.{Chain}
use Rattle.fws_ifcl.specs.declared.diagram.Ifcl.{Ifcl}
use Rattle.fws_ifcl.specs.declared.diagram.Place.{Place}
use Rattle.fws_ifcl.specs.declared.diagram.Rule.{Rule}
use Rattle.fws_ifcl.specs.declared.diagram.Spot.{Spot}
use Rattle.fws_ifcl.specs.Spots.{numbers_at, is_place_of, are_spots_of}
use Rattle.fws_ifcl.specs.Uses.{is_place}
use Rattle.fws_ifcl.specs.Walk.{rules_at}
use Rattle.fws_ifcl_rules.specs.UsedPlaces.{spots_from, chain_spots, untold, first_told, AreBeside, are_below, FitBeside}

-- Numbers at a place

-- a place
abbrev place : ℕ → ℕ → Place
place c i = record { chain = c; rule = i }

-- the spots of numbers at a place
abbrev spots_of : ℕ → ℕ → List ℕ → List Spot
spots_of c at numbers = map (λ n. record { rule = n; at = record { chain = c; rule = at } }) numbers

-- in two lists of spots
numbers_joined : (at : Place) (xs ys : List Spot) → numbers_at (xs ++ ys) at ≡ numbers_at xs at ++ numbers_at ys at
numbers_joined at xs ys =
    let test : Spot → Bool = λ spot. is_place spot.at at in
    let number : Spot → ℕ = λ spot. spot.rule in
    ap (map number) (filter-append test xs ys) ∙ map-append number (filter test xs) (filter test ys)

-- of those at one place
at_one : (at : Place) (c i : ℕ) (b : Bool) → (nat_eq c at.chain && nat_eq i at.rule) ≡ b → (numbers : List ℕ) → numbers_at (spots_of c i numbers) at ≡ cond b numbers []
at_one at c i true is [] = refl
at_one at c i false is [] = refl
at_one at c i true is (n ∷ numbers) =
    let behind = filter (λ (spot : Spot). is_place spot.at at) (spots_of c i numbers) in
    ap (λ b. map (λ (spot : Spot). spot.rule) (cond b (record { rule = n; at = record { chain = c; rule = i } } ∷ behind) behind)) is
    ∙ ap (λ l. n ∷ l) (at_one at c i true is numbers)
at_one at c i false is (n ∷ numbers) =
    let behind = filter (λ (spot : Spot). is_place spot.at at) (spots_of c i numbers) in
    ap (λ b. map (λ (spot : Spot). spot.rule) (cond b (record { rule = n; at = record { chain = c; rule = i } } ∷ behind) behind)) is
    ∙ at_one at c i false is numbers

-- of a chain, none of whose places is the one
none_at : (at : Place) (c i : ℕ) (beside : List (List ℕ)) → ((j : ℕ) → (nat_eq c at.chain && nat_eq (i + j) at.rule) ≡ false) → numbers_at (spots_from c i beside) at ≡ []
none_at at c i [] others = refl
none_at at c i (numbers ∷ beside) others =
    let here : i + 0 ≡ i = omega arith in
    let more : (j : ℕ) → suc i + j ≡ i + suc j = λ j. omega arith in
    numbers_joined at (spots_of c i numbers) (spots_from c (suc i) beside)
    ∙ ap (λ l. l ++ numbers_at (spots_from c (suc i) beside) at) (at_one at c i false (subst (λ n. (nat_eq c at.chain && nat_eq n at.rule) ≡ false) here (others 0)) numbers)
    ∙ none_at at c (suc i) beside (λ j. ap (λ n. nat_eq c at.chain && nat_eq n at.rule) (more j) ∙ others (suc j))

and_false : (b : Bool) → (b && false) ≡ false
and_false true = refl
and_false false = refl

-- of another chain, and of later places
other_chain : (c d i : ℕ) (beside : List (List ℕ)) (at : ℕ) → (c ≡ d → ⊥) → numbers_at (spots_from c at beside) (place d i) ≡ []
other_chain c d i beside at differs = none_at (place d i) c at beside (λ j. ap (λ b. b && nat_eq (at + j) i) (ne_eqb c d differs))

later_places : (c i at : ℕ) (beside : List (List ℕ)) → i < at → numbers_at (spots_from c at beside) (place c i) ≡ []
later_places c i at beside lt =
    none_at (place c i) c at beside
    (λ j. let differs : at + j ≡ i → ⊥ = λ e. omega (arith, lt, e) in ap (λ b. nat_eq c c && b) (ne_eqb (at + j) i differs) ∙ and_false (nat_eq c c))

-- of a chain
in_chain : (c at : ℕ) (beside : List (List ℕ)) (j : ℕ) → numbers_at (spots_from c at beside) (place c (at + j)) ≡ get_or beside j []
in_chain c at [] j = refl
in_chain c at (numbers ∷ beside) zero =
    let same : at + 0 ≡ at = omega arith in
    let both : (nat_eq c c && nat_eq at (at + 0)) ≡ true = and_from (nat_eq c c) (nat_eq at (at + 0)) (eq-eqb c c refl) (eq-eqb at (at + 0) (sym same)) in
    numbers_joined (place c (at + 0)) (spots_of c at numbers) (spots_from c (suc at) beside)
    ∙ ap (λ l. l ++ numbers_at (spots_from c (suc at) beside) (place c (at + 0))) (at_one (place c (at + 0)) c at true both numbers)
    ∙ ap (λ l. numbers ++ l) (later_places c (at + 0) (suc at) beside (omega arith))
    ∙ append-nil numbers
in_chain c at (numbers ∷ beside) (suc j) =
    let differs : at ≡ at + suc j → ⊥ = λ e. omega (arith, e) in
    let on : at + suc j ≡ suc at + j = omega arith in
    numbers_joined (place c (at + suc j)) (spots_of c at numbers) (spots_from c (suc at) beside)
    ∙ ap (λ l. l ++ numbers_at (spots_from c (suc at) beside) (place c (at + suc j)))
    (at_one (place c (at + suc j)) c at false (ap (λ b. nat_eq c c && b) (ne_eqb at (at + suc j) differs) ∙ and_false (nat_eq c c)) numbers)
    ∙ ap (λ i. numbers_at (spots_from c (suc at) beside) (place c i)) on
    ∙ in_chain c (suc at) beside j

-- of chains that come later
later_chains : (c d i : ℕ) (besides : List (List (List ℕ))) → d < c → numbers_at (chain_spots c besides) (place d i) ≡ []
later_chains c d i [] lt = refl
later_chains c d i (beside ∷ besides) lt =
    let differs : c ≡ d → ⊥ = λ e. omega (arith, lt, e) in
    numbers_joined (place d i) (spots_from c 0 beside) (chain_spots (suc c) besides)
    ∙ ap (λ l. l ++ numbers_at (chain_spots (suc c) besides) (place d i)) (other_chain c d i beside 0 differs)
    ∙ later_chains (suc c) d i besides (omega (arith, lt))

-- of chains
in_chains : (c m i : ℕ) (besides : List (List (List ℕ))) → numbers_at (chain_spots c besides) (place (c + m) i) ≡ get_or (get_or besides m []) i []
in_chains c m i [] = refl
in_chains c zero i (beside ∷ besides) =
    let same : c + 0 ≡ c = omega arith in
    let zeroth : i ≡ 0 + i = omega arith in
    ap (λ n. numbers_at (chain_spots c (beside ∷ besides)) (place n i)) same
    ∙ numbers_joined (place c i) (spots_from c 0 beside) (chain_spots (suc c) besides)
    ∙ ap (λ l. numbers_at (spots_from c 0 beside) (place c i) ++ l) (later_chains (suc c) c i besides (omega arith))
    ∙ append-nil (numbers_at (spots_from c 0 beside) (place c i))
    ∙ ap (λ n. numbers_at (spots_from c 0 beside) (place c n)) zeroth
    ∙ in_chain c 0 beside i
in_chains c (suc m) i (beside ∷ besides) =
    let differs : c ≡ c + suc m → ⊥ = λ e. omega (arith, e) in
    let on : c + suc m ≡ suc c + m = omega arith in
    numbers_joined (place (c + suc m) i) (spots_from c 0 beside) (chain_spots (suc c) besides)
    ∙ ap (λ l. l ++ numbers_at (chain_spots (suc c) besides) (place (c + suc m) i)) (other_chain c (c + suc m) i beside 0 differs)
    ∙ ap (λ n. numbers_at (chain_spots (suc c) besides) (place n i)) on
    ∙ in_chains (suc c) m i besides

-- the spots have just the numbers
pub are_beside : (besides : List (List (List ℕ))) (c : ℕ) → AreBeside (chain_spots 0 besides) c (get_or besides c [])
are_beside besides c i =
    let zeroth : c ≡ 0 + c = omega arith in
    ap (λ n. numbers_at (chain_spots 0 besides) (place n i)) zeroth ∙ in_chains 0 c i besides

-- Parts

pub untold_many : (rules : List Rule) → length (untold rules) ≡ length rules
untold_many [] = refl
untold_many (r ∷ rs) = ap suc (untold_many rs)

pub first_many : (n : ℕ) (rules : List Rule) → length (first_told n rules) ≡ length rules
first_many n [] = refl
first_many n (r ∷ rs) = ap suc (untold_many rs)

pub joined : (c at next : ℕ) (xs ys : List (List ℕ)) → at + length xs ≡ next → spots_from c at (xs ++ ys) ≡ spots_from c at xs ++ spots_from c next ys
joined c at next [] ys place =
    let same : at ≡ next = omega (arith, place) in
    ap (λ n. spots_from c n ys) same
joined c at next (numbers ∷ xs) ys place =
    ap (λ l. spots_of c at numbers ++ l) (joined c (suc at) next xs ys (omega (arith, place)))
    ∙ sym (append_assoc (spots_of c at numbers) (spots_from c (suc at) xs) (spots_from c next ys))

pub no_spots : (c at : ℕ) (rules : List Rule) → spots_from c at (untold rules) ≡ []
no_spots c at [] = refl
no_spots c at (r ∷ rs) = no_spots c (suc at) rs

-- the spot of a rule that has rules at a place
pub spot_put : (c at to number m i : ℕ) (old new : List Spot) → (at ≡ to → ⊥) → m ≡ number → i ≡ at
    → new ≡ old ++ record { rule = m; at = record { chain = c; rule = i } } ∷ []
    → (rules : List Rule) → at + length rules ≡ to → new ≡ old ++ spots_from c at (first_told number rules)
spot_put c at to number m i old new differs same here put [] wide = absurd (differs (omega (arith, wide)))
spot_put c at to number m i old new differs same here put (r ∷ rs) wide =
    put
    ∙ ap (λ n. old ++ record { rule = n; at = record { chain = c; rule = i } } ∷ []) same
    ∙ ap (λ n. old ++ record { rule = number; at = record { chain = c; rule = n } } ∷ []) here
    ∙ ap (λ l. old ++ record { rule = number; at = record { chain = c; rule = at } } ∷ l) (sym (no_spots c (suc at) rs))

-- Right spots

module _ (f : Ifcl) (rules : ℕ) where
  abbrev is_right : Spot → Bool
  is_right spot = nat_lt spot.rule rules && is_place_of f spot.at

  -- numbers at a place of the diagram
  right_at : (c i : ℕ) (numbers : List ℕ) → is_place_of f (place c i) ≡ true → list_all (λ n. nat_lt n rules) numbers ≡ true → list_all is_right (spots_of c i numbers) ≡ true
  right_at c i [] there small = refl
  right_at c i (n ∷ numbers) there small =
      let both = and_parts (nat_lt n rules) (list_all (λ n. nat_lt n rules) numbers) small in
      and_from (nat_lt n rules && is_place_of f (place c i)) (list_all is_right (spots_of c i numbers))
      (and_from (nat_lt n rules) (is_place_of f (place c i)) both.0 there) (right_at c i numbers there both.1)

  -- numbers beside the rules of a chain
  right_from : (c at : ℕ) (beside : List (List ℕ)) → nat_lt c (length f.chains) ≡ true → at + length beside ≤ length (rules_at f.chains c) → are_below rules beside ≡ true
      → list_all is_right (spots_from c at beside) ≡ true
  right_from c at [] there wide small = refl
  right_from c at (numbers ∷ beside) there wide small =
      let both = and_parts (list_all (λ n. nat_lt n rules) numbers) (are_below rules beside) small in
      let inside : nat_lt at (length (rules_at f.chains c)) ≡ true = lt-ltb at (length (rules_at f.chains c)) (omega (arith, wide)) in
      list_all-append is_right (spots_of c at numbers) (spots_from c (suc at) beside)
      ∙ and_from (list_all is_right (spots_of c at numbers)) (list_all is_right (spots_from c (suc at) beside))
      (right_at c at numbers (and_from (nat_lt c (length f.chains)) (nat_lt at (length (rules_at f.chains c))) there inside) both.0)
      (right_from c (suc at) beside there (omega (arith, wide)) both.1)

  -- numbers beside the rules of the last chains
  right_chains : (c : ℕ) (chains : List Chain) (besides : List (List (List ℕ))) → c + length chains ≡ length f.chains → ((m : ℕ) → slice_get f.chains (c + m) ≡ slice_get chains m)
      → FitBeside chains besides → list_all (are_below rules) besides ≡ true → list_all is_right (chain_spots c besides) ≡ true
  right_chains c chains [] many same fit small = refl
  right_chains c [] (beside ∷ besides) many same fit small = absurd fit
  right_chains c (chain ∷ chains) (beside ∷ besides) many same fit small =
      let both = and_parts (are_below rules beside) (list_all (are_below rules) besides) small in
      let here : c + 0 ≡ c = omega arith in
      let on : (m : ℕ) → suc c + m ≡ c + suc m = λ m. omega arith in
      let found : slice_get f.chains c ≡ Some chain = ap (slice_get f.chains) (sym here) ∙ same 0 in
      let stand : rules_at f.chains c ≡ chain.rules = ap (λ o. option_map_or (λ (chain : Chain). chain.rules) o []) found in
      let narrow : length beside ≤ length (rules_at f.chains c) = subst (λ l. length beside ≤ length l) (sym stand) fit.0 in
      let there : nat_lt c (length f.chains) ≡ true = lt-ltb c (length f.chains) (omega (arith, many)) in
      list_all-append is_right (spots_from c 0 beside) (chain_spots (suc c) besides)
      ∙ and_from (list_all is_right (spots_from c 0 beside)) (list_all is_right (chain_spots (suc c) besides))
      (right_from c 0 beside there (omega (arith, narrow)) both.0)
      (right_chains (suc c) chains besides (omega (arith, many)) (λ m. ap (slice_get f.chains) (on m) ∙ same (suc m)) fit.1 both.1)

-- all of them
pub right : (f : Ifcl) (rules : ℕ) (besides : List (List (List ℕ))) → list_all (are_below rules) besides ≡ true → FitBeside f.chains besides
    → are_spots_of f rules (chain_spots 0 besides) ≡ true
right f rules besides small fit =
    let zeroth : (m : ℕ) → 0 + m ≡ m = λ m. omega arith in
    right_chains f rules 0 f.chains besides (zeroth (length f.chains)) (λ m. ap (slice_get f.chains) (zeroth m)) fit small
