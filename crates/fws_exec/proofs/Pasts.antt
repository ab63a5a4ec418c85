-- Whether classes stand behind a place.
use Rattle.std.proofs.Common.{◌≡◌, ℕ, ◌+◌, ◌<◌, ◌≤◌, false, nat_lt, Option, Some, List, get_or, length, slice_get, inl, inr, refl, sym, ◌∙◌, ap, subst, arith}
use Rattle.std.specs.Option.{option_map_or}
use Rattle.std.proofs.lemmas.Option.{slice_get_past, slice_get_read}
use Rattle.std.proofs.lemmas.Bool.{cases_Bool}
use borrow.Author.Tests.{ltb-true}
use Rattle.fws_exec.specs.declared.spot.Class.{Class}
use Rattle.fws_exec.specs.Classes.{is_before}
use Rattle.fws_exec.specs.Sheets.{stands}
use Rattle.fws_exec.proofs.Putting.{not_below, same_or_not, stands_of}

-- one more class isn't before the place
pub past_step : (cs : List Class) (k place : ℕ) (c : Class) → k < length cs → c ≡ get_or cs k c → is_before place c.spot ≡ false
    → ((n : ℕ) → n < k → stands (is_before place) cs n ≡ false) → (n : ℕ) → n < k + 1 → stands (is_before place) cs n ≡ false
past_step cs k place c lt is one before n less = elim (same_or_not n k) [
  | inl here ↦ subst (λ m. stands (is_before place) cs m ≡ false) (sym here)
      (let got : slice_get cs k ≡ Some c = slice_get_read cs (length cs) k c refl lt is in
      stands_of (is_before place) cs k c got ∙ one)
  | inr away ↦ before n (omega arith)
]

-- behind the last class there is none
pub past_end : (cs : List Class) (k place : ℕ) → length cs ≤ k → ((n : ℕ) → n < k → stands (is_before place) cs n ≡ false) → (n : ℕ) → stands (is_before place) cs n ≡ false
past_end cs k place le h n = elim (cases_Bool (nat_lt n k)) [
  | inl below ↦ h n (ltb-true n k below)
  | inr past ↦ (let far : k ≤ n = not_below n k past in
      ap (λ (o : Option Class). option_map_or (λ c. is_before place c.spot) o false) (slice_get_past cs n (omega arith)))
]
