-- Recoloured cells.
use Rattle.std.proofs.Common.{◌≡◌, ◌≤◌, ◌<◌, ℕ, List, length, take, refl, sym, ◌∙◌, ap, subst, arith, bit_and, Option, Some, Result, Ok, Err, OnErr}
use Rattle.std.proofs.lemmas.List.{take_all}
use Rattle.fws_tree.specs.declared.store.Cell.{Cell}
use Rattle.fws_tree.specs.Bits.{bits_in, AreMasks}
use Rattle.fws_tree.specs.Held.{held_at}
use Rattle.fws_tree.specs.Merged.{CanSkip}
use Rattle.fws_tree.specs.Building.{Extends}
use Rattle.fws_tree.specs.Parts.{CanStay}
use Rattle.fws_tree.specs.Recoloured.{IsRecoloured}
use Rattle.fws_tree.proofs.Cells.{held-extends}

-- a cell without a wanted bit may stay
pub skip_masked : (moves : ℕ → ℕ → ℕ → Type 0) (values : List ℕ) (cells : List Cell) (masks : List ℕ) (wanted known : ℕ) → known ≡ length values → AreMasks values cells masks
    → CanSkip (λ x l z. IsRecoloured moves (take known values) wanted x l z) cells masks wanted
skip_masked moves values cells masks wanted known e are at skipped =
    let h = are at skipped.0 in (
      h.0,
      λ p y. (
        λ none. refl,
        λ unwanted. refl,
        λ some want.
            absurd (want (ap (λ vs. bit_and (bits_in vs (held_at cells at p)) wanted) (take_all known values (let l : length values ≤ known = omega arith in l)) ∙ h.1 p wanted skipped.1)),
      ),
    )

-- at a cell without a label all stays
pub stay_unlabelled : (moves : ℕ → ℕ → ℕ → Type 0) (values : List ℕ) (cells : List Cell) (wanted : ℕ) (stay : Option ℕ) → ((k : ℕ) → stay ≡ Some k → (k < length cells) × ((p : List ℕ) → held_at cells k p ≡ 0))
    → CanStay (λ x l z. IsRecoloured moves values wanted x l z) cells stay
stay_unlabelled moves values cells wanted stay none k is = let h = none k is in (h.0, λ p x. (λ off. refl, λ unwanted. refl, λ on want. absurd (on (h.1 p))))

-- by the values that there were
pub recoloured_before : (moves now : ℕ → ℕ → ℕ → Type 0) (values later : List ℕ) (wanted same known after : ℕ) (x l z : ℕ) → known ≡ length values → take known values ≡ take after later → wanted ≡ same
    → ((x l z : ℕ) → moves x l z → now x l z) → IsRecoloured moves (take after later) same x l z → IsRecoloured now values wanted x l z
recoloured_before moves now values later wanted same known after x l z e front w stays g =
    let all : take after later ≡ values = sym front ∙ take_all known values (let l : length values ≤ known = omega arith in l) in
    let h : IsRecoloured moves values wanted x l z = subst (λ k. IsRecoloured moves values k x l z) (sym w) (subst (λ vs. IsRecoloured moves vs same x l z) all g) in
    (h.0, h.1, λ some want. stays x l z (h.2 some want))

-- a cell holds after an error what it held
pub still_held : {T E : Type 0} (r : Result T E) (old new : List Cell) (root : ℕ) (was : List ℕ → ℕ) → Extends old new → root < length old → ((p : List ℕ) → held_at old root p ≡ was p) → OnErr r ((p : List ℕ) → held_at new root p ≡ was p)
still_held (Ok x) old new root was e lt same = tt
still_held (Err f) old new root was e lt same = λ p. held-extends old new root p e lt ∙ same p
