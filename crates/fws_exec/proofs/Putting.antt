-- Classes that are put in the place of others, and what becomes of points then.
use Rattle.std.proofs.Common.{◌≡◌, ◌≢◌, ℕ, ◌<◌, ◌≤◌, Bool, false, nat_eq, nat_lt, Option, Some, List, length, set, slice_get, inl, inr, ◌⊎◌, sym, ◌∙◌, ap, arith}
use Rattle.std.specs.Option.{option_map_or}
use Rattle.std.proofs.lemmas.Bool.{cases_Bool, eqb-true, eqb-false}
use Rattle.std.proofs.lemmas.Bool.Decides.{nat_tests}
use borrow.Author.Tests.{ltb-true}
use Rattle.std.proofs.lemmas.List.{get_or-set_same, get_or-set_other, length-set}
use Rattle.std.proofs.lemmas.Option.{slice_get-get_or, slice_get_past}
use Rattle.fws_net.specs.declared.outcome.Outcome.{Outcome}
use Rattle.fws_net.specs.declared.outcome.Outcome.TheVariants as outcomes
use Rattle.fws_net.specs.declared.transit.Transit.{Transit}
use Rattle.fws_exec.specs.declared.spot.Stage.{Stage}
use Rattle.fws_exec.specs.declared.spot.Spot.{Spot}
use Rattle.fws_exec.specs.declared.spot.Class.{Class}
use Rattle.fws_exec.specs.Classes.{meant, transit_of, future}
use Rattle.fws_exec.specs.Sheets.{IsPut, stands, NoneComes}

pub future_same : (at : ℕ → Transit → Outcome) (next : Stage → Transit → Outcome) (old new : List Class) (n : ℕ) (p : List ℕ) → slice_get new n ≡ slice_get old n → future at next new n p ≡ future at next old n p
future_same at next old new n p e = ap (λ (o : Option Class). option_map_or (λ c. meant at next c.spot (transit_of c.progress p)) o outcomes.Drop) e

pub future_of : (at : ℕ → Transit → Outcome) (next : Stage → Transit → Outcome) (cs : List Class) (n : ℕ) (c : Class) (p : List ℕ) → slice_get cs n ≡ Some c → future at next cs n p ≡ meant at next c.spot (transit_of c.progress p)
future_of at next cs n c p e = ap (λ (o : Option Class). option_map_or (λ d. meant at next d.spot (transit_of d.progress p)) o outcomes.Drop) e

pub stands_same : (test : Spot → Bool) (old new : List Class) (n : ℕ) → slice_get new n ≡ slice_get old n → stands test new n ≡ stands test old n
stands_same test old new n e = ap (λ (o : Option Class). option_map_or (λ c. test c.spot) o false) e

pub stands_of : (test : Spot → Bool) (cs : List Class) (n : ℕ) (c : Class) → slice_get cs n ≡ Some c → stands test cs n ≡ test c.spot
stands_of test cs n c e = ap (λ (o : Option Class). option_map_or (λ d. test d.spot) o false) e

pub same_or_not : (m n : ℕ) → (m ≡ n) ⊎ (m ≢ n)
same_or_not m n = elim (cases_Bool (nat_eq m n)) [ inl e ↦ inl (eqb-true m n e) | inr e ↦ inr (eqb-false m n e) ]

pub put_spots : (test : Spot → Bool) (n : ℕ) (c : Class) (old new : List Class) → IsPut n c old new → test c.spot ≡ false → NoneComes test old new
put_spots test n c old new put h m f = elim (same_or_not m n) [
  | inl e ↦ ap (λ k. stands test new k) e ∙ stands_of test new n c put.0 ∙ h
  | inr d ↦ stands_same test old new m (put.1 m d) ∙ f
]

pub not_below : (m n : ℕ) → nat_lt m n ≡ false → n ≤ m
not_below m n f = grind (arith, nat_tests)

pub put_set : (xs : List Class) (n : ℕ) (c : Class) → n < length xs → IsPut n c xs (set xs n c)
put_set xs n c lt =
    let long : length (set xs n c) ≡ length xs = length-set xs n c in (
      slice_get-get_or (set xs n c) n c (omega arith) ∙ ap Some (get_or-set_same xs n c c lt),
      λ m d. elim (cases_Bool (nat_lt m (length xs))) [
        | inl t ↦ (let within : m < length xs = ltb-true m (length xs) t in
            slice_get-get_or (set xs n c) m c (omega arith) ∙ ap Some (get_or-set_other xs n m c c d) ∙ sym (slice_get-get_or xs m c within))
        | inr f ↦ (let past : length xs ≤ m = not_below m (length xs) f in
            slice_get_past (set xs n c) m (omega arith) ∙ sym (slice_get_past xs m past))
      ],
    )
