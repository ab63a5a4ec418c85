-- Points that differ in flags alone, and how ACK and RST tell them apart.
use Rattle.std.specs.Prelude.{◌≡◌, ℕ, Bool, true, false, ◌||◌, not, nat_eq, Option, Some, List, if◌then◌else◌, MatchOption, ◌&&◌}
use Rattle.std.specs.Int.Bits.{bit_and}
use Rattle.fws_box.specs.Sides.{IsWithin}
use Rattle.fws_box.specs.declared.field.Field.TheVariants as fields
use Rattle.fws_net.specs.declared.site.Site.{Site}
use Rattle.fws_net.specs.Points.{tops_of}
use Rattle.fws_net.specs.Routes.{is_local}
use Rattle.fws_tree.specs.Changed.{Agree}
use Rattle.fws_tree.specs.Plain.{Plain, value}
use Rattle.fws_place.specs.declared.breach.Pair.{Pair}
use Rattle.fws_place.specs.Apart.{flags_alone}
use Rattle.fws_place.specs.Found.{IsTrueAt}
use Rattle.fws_box.specs.Fields.{value_of}
use Rattle.fws_place.specs.Kept.{IsKept}

-- ACK or RST is among the flags
abbrev pub acknowledges : ℕ → Bool
acknowledges flags = not (nat_eq (bit_and flags 20) 0)

-- they are as it is asked
abbrev pub acknowledges_as : Bool → ℕ → Bool
acknowledges_as asked flags = if asked then acknowledges flags else not (acknowledges flags)

-- the point is one of packets that arrive
abbrev pub arrives_at : List ℕ → Bool
arrives_at q = not (nat_eq (value_of q fields.Entry) 0)

-- of two points that agree in all but flags one tree is true at the first, and the other false at the second, where flags
-- have ACK or RST, or neither, as it is asked
pub record AreFalseNear (asked : Bool) (tops : List ℕ) (t u : Plain Bool) (p q : List ℕ) : Type 0 where
  pub first : IsTrueAt tops t p
  pub within : IsWithin tops q
  pub second : value u q ≡ Some false
  pub flags : acknowledges_as asked (value_of q fields.Flags) ≡ true
  pub near : Agree flags_alone p q

-- two points of arriving packets agree in all but flags; both have ACK or RST, or neither has, as it is asked; the tree is
-- true at the first and false at the second
pub record AreToldByMore (asked : Bool) (tops : List ℕ) (t : Plain Bool) (p q : List ℕ) : Type 0 where
  pub first : IsTrueAt tops t p
  pub within : IsWithin tops q
  pub second : value t q ≡ Some false
  pub arrives : arrives_at p ≡ true
  pub flags : acknowledges_as asked (value_of p fields.Flags) ≡ true
  pub other_flags : acknowledges_as asked (value_of q fields.Flags) ≡ true
  pub near : Agree flags_alone p q

-- two points are such, or there are none
abbrev pub AreSoughtByMore : List ℕ → Plain Bool → Option (List ℕ × List ℕ) → Type 0
AreSoughtByMore tops t found = MatchOption found ((asked : Bool) (p q : List ℕ) → AreToldByMore asked tops t p q → ⊥)
    (λ pair. (asked : Bool) × AreToldByMore asked tops t pair.0 pair.1)

-- the packets of the destination aren't lost
abbrev pub is_found : Site → ℕ → Bool
is_found site dst = site.forwarding || is_local site dst

-- of two points of arriving packets of TCP that agree in all but flags the first has ACK or RST, isn't lost, has one tree
-- true and the other false; the second has neither, and the first tree is false there
pub record AreAheadAt (site : Site) (sometimes new : Plain Bool) (p q : List ℕ) : Type 0 where
  pub first : IsTrueAt (tops_of site) sometimes p
  pub dropped : value new p ≡ Some false
  pub within : IsWithin (tops_of site) q
  pub never : value sometimes q ≡ Some false
  pub arrives : arrives_at p ≡ true
  pub tcp : nat_eq (value_of p fields.Proto) 6 ≡ true
  pub found : is_found site (value_of p fields.Dst) ≡ true
  pub flags : acknowledges (value_of p fields.Flags) ≡ true
  pub other_flags : acknowledges (value_of q fields.Flags) ≡ false
  pub near : Agree flags_alone p q

-- packets are named that are such, or there are none
abbrev pub AreSoughtSuch : (Pair → Option Pair → Type 0) → Option (Pair × Option Pair) → Type 0
AreSoughtSuch Names found = MatchOption found ((first : Pair) (second : Option Pair) → Names first second → ⊥) (λ named. Names named.0 named.1)

-- What trees have that are made on the way

-- flags are as it is asked
abbrev pub flags_pass : Bool → List ℕ → Bool
flags_pass asked q = acknowledges_as asked (value_of q fields.Flags)

-- of the points of the tree those of arriving packets with flags as they are asked
abbrev pub IsArrivingWith : Bool → List ℕ → Plain Bool → Plain Bool → Type 0
IsArrivingWith asked tops t first = IsKept tops (flags_pass asked) (λ q. if arrives_at q then value t q else Some false) first

-- the points with flags as they are asked at which the tree is false
abbrev pub IsFalseWith : Bool → List ℕ → Plain Bool → Plain Bool → Type 0
IsFalseWith asked tops t second = (q : List ℕ) → IsWithin tops q
    → (b : Bool) × (value t q ≡ Some b) × (value second q ≡ (if flags_pass asked q then Some (not b) else Some false))

-- no two points are such
abbrev pub NoneFalseNear : Bool → List ℕ → Plain Bool → Plain Bool → Type 0
NoneFalseNear asked tops t u = (p q : List ℕ) → AreFalseNear asked tops t u p q → ⊥

-- two points are such, or there are none
abbrev pub AreFoundFalse : Bool → List ℕ → Plain Bool → Plain Bool → Option (List ℕ × List ℕ) → Type 0
AreFoundFalse asked tops t u found = MatchOption found (NoneFalseNear asked tops t u) (λ pair. AreFalseNear asked tops t u pair.0 pair.1)

-- two points are told apart by more than ACK and RST, which are as it is asked, or none are
abbrev pub AreFoundTold : Bool → List ℕ → Plain Bool → Option (List ℕ × List ℕ) → Type 0
AreFoundTold asked tops t found =
    MatchOption found ((p q : List ℕ) → AreToldByMore asked tops t p q → ⊥) (λ pair. AreToldByMore asked tops t pair.0 pair.1)

-- the point is of TCP and isn't lost
abbrev pub is_found_tcp : Site → List ℕ → Bool
is_found_tcp site q = nat_eq (value_of q fields.Proto) 6 && is_found site (value_of q fields.Dst)

-- and its packet arrives
abbrev pub is_first_test : Site → List ℕ → Bool
is_first_test site q = arrives_at q && is_found_tcp site q

-- the first of the points that are sought
abbrev pub IsFirstOf : Site → Plain Bool → Plain Bool → Plain Bool → Type 0
IsFirstOf site sometimes new such = (q : List ℕ) → IsWithin (tops_of site) q
    → (a : Bool) × (b : Bool) × (value sometimes q ≡ Some a) × (value new q ≡ Some b)
    × (value such q ≡ (if is_first_test site q then Some (a && not b) else Some false))

-- those of them whose flags have ACK or RST
abbrev pub IsFirstWithAck : Site → Plain Bool → Plain Bool → Plain Bool → Type 0
IsFirstWithAck site sometimes new first = (q : List ℕ) → IsWithin (tops_of site) q
    → (a : Bool) × (b : Bool) × (value sometimes q ≡ Some a) × (value new q ≡ Some b)
    × (value first q ≡ (if flags_pass true q then (if is_first_test site q then Some (a && not b) else Some false) else Some false))

-- two points are such that the first is dropped ahead, or there are none
abbrev pub AreFoundAhead : Site → Plain Bool → Plain Bool → Option (List ℕ × List ℕ) → Type 0
AreFoundAhead site sometimes new found =
    MatchOption found ((p q : List ℕ) → AreAheadAt site sometimes new p q → ⊥) (λ pair. AreAheadAt site sometimes new pair.0 pair.1)
