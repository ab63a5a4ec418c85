-- Ends by their places.
use Rattle.std.proofs.Common.{◌≡◌, ℕ, zero, suc, ◌+◌, ◌<◌, Bool, true, false, cond, not, nat_lt, slice_get, Some, None, List, [], ◌∷◌, length, arith, refl, sym, ap, ◌∙◌, subst}
use Rattle.std.proofs.lemmas.Bool.{false≢true, lt-ltb, ltb-true}
use Rattle.std.specs.List.{position_or_len}
use Rattle.fws_net.specs.declared.outcome.End.{End}
use Rattle.fws_tree.specs.OutcomeEquality.{end_exact}
use Rattle.fws_ipfw_put.specs.Ends.{IsAmong}
use Rattle.fws_ipfw_put.specs.Layout.{place_of, same_end}
use Rattle.fws_ipfw_put.proofs.Nats.{end_itself, none_is, some_is}

pub got_below : {X : Type 0} (xs : List X) (i : ℕ) (x : X) → slice_get xs i ≡ Some x → i < length xs
got_below [] i x is = absurd (none_is is)
got_below (y ∷ xs) zero x is = omega arith
got_below (y ∷ xs) (suc i) x is = let le = got_below xs i x is in omega (arith, le)

-- the first item that passes
abbrev Passing : {X : Type 0} → (X → Bool) → List X → ℕ → Type 0
Passing {X} p xs at = (y : X) × (slice_get xs at ≡ Some y) × (p y ≡ true)

by_first : {X : Type 0} (p : X → Bool) (y : X) (xs : List X) (x : X) → p x ≡ true → ((j : ℕ) → slice_get xs j ≡ Some x → Passing p xs (position_or_len p xs))
    → (here : Bool) → p y ≡ here → (j : ℕ) → slice_get (y ∷ xs) j ≡ Some x → Passing p (y ∷ xs) (position_or_len p (y ∷ xs))
by_first p y xs x passes later true here j at = (y, ap (λ b. slice_get (y ∷ xs) (cond (not b) (1 + position_or_len p xs) 0)) here, here)
by_first p y xs x passes later false fails zero at = absurd (false≢true (sym fails ∙ ap p (some_is at) ∙ passes))
by_first p y xs x passes later false fails (suc j) at =
    let found = later j at in
    let next : 1 + position_or_len p xs ≡ suc (position_or_len p xs) = omega arith in
    (found.0, ap (λ b. slice_get (y ∷ xs) (cond (not b) (1 + position_or_len p xs) 0)) fails ∙ ap (slice_get (y ∷ xs)) next ∙ found.1, found.2)

first_passes : {X : Type 0} (p : X → Bool) (xs : List X) (i : ℕ) (x : X) → slice_get xs i ≡ Some x → p x ≡ true → Passing p xs (position_or_len p xs)
first_passes p [] i x is passes = absurd (none_is is)
first_passes p (y ∷ xs) i x is passes = by_first p y xs x passes (λ j at. first_passes p xs j x at passes) (p y) refl i is

-- an end among others has a place
pub record HasPlace (ends : List End) (e : End) : Type 0 where
  pub place : ℕ
  pub found : place_of ends e ≡ Some place
  pub there : slice_get ends place ≡ Some e

pub place_found : (ends : List End) (e : End) → IsAmong ends e → HasPlace ends e
place_found ends e among =
    let first = first_passes (same_end e) ends among.0 e among.1 (end_itself e) in
    let at = position_or_len (same_end e) ends in
    let below = got_below ends at first.0 first.1 in
    record {
      place = at;
      found = ap (λ b. cond b (Some at) None) (lt-ltb at (length ends) below);
      there = first.1 ∙ ap Some (sym (end_exact e first.0 first.2));
    }

-- a place is one of those there are
pub place_low : (ends : List End) (e : End) (i : ℕ) → place_of ends e ≡ Some i → i < length ends
place_low ends e i is = by_test (nat_lt (position_or_len (same_end e) ends) (length ends)) refl is where
  by_test : (b : Bool) → nat_lt (position_or_len (same_end e) ends) (length ends) ≡ b → cond b (Some (position_or_len (same_end e) ends)) None ≡ Some i → i < length ends
  by_test true low h = subst (λ n. n < length ends) (some_is h) (ltb-true (position_or_len (same_end e) ends) (length ends) low)
  by_test false low h = absurd (none_is h)
