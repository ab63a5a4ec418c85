-- Numbers at places are those that spots give them.
use Rattle.std.proofs.Common.{◌≡◌, ℕ, ◌+◌, ◌<◌, Bool, true, false, cond, nat_eq, unwrap_or, Option, Some, None, List, [], ◌∷◌, ◌++◌, length, map, take, get_or, refl, sym, ◌∙◌, ap}
use Rattle.std.proofs.lemmas.Bool.{and_parts, eqb-true}
use Rattle.std.proofs.lemmas.List.{append-nil, map-append, take_more}
use Rattle.std.proofs.lemmas.List.Elements.{filter-append}
use Rattle.std.specs.List.{filter}
use Rattle.fws_ifcl.specs.declared.diagram.Place.{Place}
use Rattle.fws_ifcl.specs.declared.diagram.Spot.{Spot}
use Rattle.fws_ifcl.specs.Spots.{numbers_at}
use Rattle.fws_ifcl.specs.Uses.{is_place}
use Rattle.fws_why.specs.declared.numbers.Key.{Key}
use Rattle.fws_why.specs.Numbers.{key_of}

made : (c r d s : ℕ) → c ≡ d → r ≡ s → ◌≡◌ {A = Key} (record { chain = c; rule = r }) (record { chain = d; rule = s })
made c r d s chain rule = cc

-- a place has one key
pub same_key : (a b : Place) → is_place a b ≡ true → key_of a ≡ key_of b
same_key a b e =
    let both = and_parts (nat_eq a.chain b.chain) (nat_eq a.rule b.rule) e in
    made a.chain a.rule b.chain b.rule (eqb-true a.chain b.chain both.0) (eqb-true a.rule b.rule both.1)

abbrev number_of : Spot → ℕ
number_of spot = spot.rule

-- one more number at a place, where the numbers there were taken out and put back
pub noted : (is : Bool) (here old left new : Option (List ℕ)) (taken put : List ℕ) (spot : Spot) → new ≡ cond is (Some put) left → left ≡ cond is None old
    → (is ≡ true → here ≡ old) → taken ≡ unwrap_or here [] → put ≡ taken ++ spot.rule ∷ []
    → unwrap_or new [] ≡ unwrap_or old [] ++ map number_of (cond is (spot ∷ []) [])
noted true here old left new taken put spot to from alike was is =
    ap (λ (o : Option (List ℕ)). unwrap_or o []) to ∙ is ∙ ap (λ (ns : List ℕ). ns ++ spot.rule ∷ []) (was ∙ ap (λ (o : Option (List ℕ)). unwrap_or o []) (alike refl))
noted false here old left new taken put spot to from alike was is =
    ap (λ (o : Option (List ℕ)). unwrap_or o []) (to ∙ from) ∙ sym (append-nil (unwrap_or old []))

-- the numbers that more spots give a place
pub more_at : (xs ys : List Spot) (place : Place) → numbers_at (xs ++ ys) place ≡ numbers_at xs place ++ numbers_at ys place
more_at xs ys place =
    let test : Spot → Bool = λ spot. is_place spot.at place in
    ap (map number_of) (filter-append test xs ys) ∙ map-append number_of (filter test xs) (filter test ys)

pub next_spot : (spots : List Spot) (i : ℕ) (d : Spot) (place : Place) (old new : List ℕ) → i < length spots → old ≡ numbers_at (take i spots) place
    → new ≡ old ++ numbers_at (get_or spots i d ∷ []) place → new ≡ numbers_at (take (i + 1) spots) place
next_spot spots i d place old new lt so_far made =
    made ∙ ap (λ (ns : List ℕ). ns ++ numbers_at (get_or spots i d ∷ []) place) so_far ∙ sym (more_at (take i spots) (get_or spots i d ∷ []) place)
    ∙ ap (λ (xs : List Spot). numbers_at xs place) (sym (take_more spots i d lt))
