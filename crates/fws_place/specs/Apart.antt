-- Points that agree in all fields but some, and what a tree has there.
use Rattle.std.specs.Prelude.{◌≡◌, ◌≢◌, ℕ, ◌/◌, ◌%◌, Bool, ◌&&◌, not, nat_eq, Some, List, [], ◌∷◌, unwrap_or, position, Contains, if◌then◌else◌, ◌↔◌, true, Option, MatchOption}
use Rattle.fws_iv.specs.declared.iv.Iv.{Iv}
use Rattle.fws_box.specs.Sides.{IsWithin}
use Rattle.fws_tree.specs.Changed.{Agree, IsTrueSomewhere}
use Rattle.fws_tree.specs.Plain.{Plain, value}
use Rattle.fws_place.specs.Found.{IsTrueAt}

-- the fields of flags and of ICMP types, by their bits
abbrev pub flags_and_icmp : ℕ
flags_and_icmp = 192

-- the field of flags
abbrev pub flags_alone : ℕ
flags_alone = 64

-- the fields of the entry and of flags
abbrev pub entry_and_flags : ℕ
entry_and_flags = 65

-- the values of a field that keep a point near: all of them where the field's bit is set, else the point's alone
abbrev pub near_side : Bool → ℕ → ℕ → List Iv
near_side free top x = record { lo = if free then 0 else x; hi = if free then top else x } ∷ []

-- Trees of truth values

-- of two points that agree in all fields whose bits aren't set the one tree is true at the first, and the other at the second
pub record AreTrueNear (fields : ℕ) (tops : List ℕ) (t u : Plain Bool) (p q : List ℕ) : Type 0 where
  pub first : IsTrueAt tops t p
  pub second : IsTrueAt tops u q
  pub near : Agree fields p q

-- the one tree is true at the point, and the other at one that agrees with it in all fields whose bits aren't set
abbrev pub IsFirstNear : ℕ → List ℕ → Plain Bool → Plain Bool → List ℕ → Type 0
IsFirstNear fields tops t u p = IsTrueAt tops t p × IsTrueSomewhere tops fields u p

-- there are no two points that are such
abbrev pub NoneTrueNear : ℕ → List ℕ → Plain Bool → Plain Bool → Type 0
NoneTrueNear fields tops t u = (p q : List ℕ) → AreTrueNear fields tops t u p q → ⊥

-- Trees of leaves, of which one doesn't count

-- two such points have values that count
pub record HaveNear {L : Type 0} (fields : ℕ) (tops : List ℕ) (t : Plain L) (off : L) (p q : List ℕ) (a b : L) : Type 0 where
  pub within : IsWithin tops p
  pub other_within : IsWithin tops q
  pub near : Agree fields p q
  pub here : value t p ≡ Some a
  pub there : value t q ≡ Some b
  pub counts : a ≢ off
  pub other_counts : b ≢ off

-- and they are different
pub record AreApart {L : Type 0} (fields : ℕ) (tops : List ℕ) (t : Plain L) (off : L) (p q : List ℕ) : Type 0 where
  pub leaf : L
  pub other : L
  pub have : HaveNear fields tops t off p q leaf other
  pub differ : leaf ≢ other

-- at any two such points a function gives the same
abbrev pub AreAlikeBy : {L X : Type 0} → (L → X) → ℕ → List ℕ → Plain L → L → Type 0
AreAlikeBy {L} f fields tops t off = (p q : List ℕ) (a b : L) → HaveNear fields tops t off p q a b → f a ≡ f b

-- each value of the tree is among these
abbrev pub HasValuesAmong : {L : Type 0} → Plain L → List L → Type 0
HasValuesAmong {L} t keys = (p : List ℕ) (a : L) → value t p ≡ Some a → Contains keys a

-- Bits of places

-- the place of a leaf among others
abbrev pub place_in : {L : Type 0} → (L → L → Bool) → List L → L → ℕ
place_in eq keys x = unwrap_or (position (eq x) keys) 0

-- the bit of a number that stands for this power of 2
abbrev pub has_bit : ℕ → ℕ → Bool
has_bit size n = nat_eq (n / size % 2) 1

-- the leaf counts, and the bit of its place is set, or it isn't
abbrev pub is_marked : {L : Type 0} → (L → L → Bool) → L → List L → ℕ → Bool → L → Bool
is_marked eq off keys size set x = not (eq x off) && (if set then has_bit size (place_in eq keys x) else not (has_bit size (place_in eq keys x)))

-- What is found

-- a point near another one at which the tree is true, or there is none
abbrev pub IsFoundNear : ℕ → List ℕ → Plain Bool → List ℕ → Option (List ℕ) → Type 0
IsFoundNear fields tops t point found =
    MatchOption found ((q : List ℕ) → IsTrueAt tops t q → Agree fields point q → ⊥) (λ q. IsTrueAt tops t q × Agree fields point q)

-- the tree is true at the first of two points that are sought
abbrev pub TellsFirstNear : ℕ → List ℕ → Plain Bool → Plain Bool → Plain Bool → Type 0
TellsFirstNear fields tops t u new = (p : List ℕ) → IsWithin tops p → (value new p ≡ Some true) ↔ IsFirstNear fields tops t u p

-- the first of two such points, or there are none
abbrev pub IsFoundFirst : ℕ → List ℕ → Plain Bool → Plain Bool → Option (List ℕ) → Type 0
IsFoundFirst fields tops t u found = MatchOption found (NoneTrueNear fields tops t u) (IsFirstNear fields tops t u)

-- two such points, or there are none
abbrev pub AreFoundNear : ℕ → List ℕ → Plain Bool → Plain Bool → Option (List ℕ × List ℕ) → Type 0
AreFoundNear fields tops t u found = MatchOption found (NoneTrueNear fields tops t u) (λ pair. AreTrueNear fields tops t u pair.0 pair.1)

-- two points with different leaves, or a function gives the same of all leaves at such points
abbrev pub AreFoundApart : {L X : Type 0} → (L → X) → ℕ → List ℕ → Plain L → L → Option (List ℕ × List ℕ) → Type 0
AreFoundApart {L} f fields tops t off found = MatchOption found (AreAlikeBy f fields tops t off) (λ pair. AreApart fields tops t off pair.0 pair.1)
