-- Sets of numbers as lists of intervals.
use Rattle.std.specs.Prelude.{◌≡◌, ℕ, ◌+◌, ◌≤◌, Bool, ◌&&◌, ◌||◌, nat_le, nat_lt, min, max, if◌then◌else◌, List, [], ◌∷◌, Option, Some, None, All}
use Rattle.std.specs.List.{list_any}
use Rattle.fws_iv.specs.declared.iv.Iv.{Iv}

-- an interval has the numbers from its least to its greatest
abbrev pub in_part : Iv → ℕ → Bool
in_part x v = nat_le x.lo v && nat_le v x.hi

-- v is a member of the set: it lies in one of the intervals
abbrev pub has : List Iv → ℕ → Bool
has s v = list_any (λ x. in_part x v) s

-- the intervals ascend, none is empty and no two touch; the first begins at the number or later
abbrev pub IsRegularFrom : ℕ → List Iv → Type 0
IsRegularFrom from [] = Unit {0}
IsRegularFrom from (x ∷ xs) = (from ≤ x.lo) × (x.lo ≤ x.hi) × IsRegularFrom (x.hi + 2) xs

-- ascending intervals, none empty, no two touching
abbrev pub IsRegular : List Iv → Type 0
IsRegular s = IsRegularFrom 0 s

-- the least member of a regular list
abbrev pub least : List Iv → Option ℕ
least [] = None
least (x ∷ xs) = Some x.lo

-- where the last interval begins; the number where there is none
abbrev pub last_start : ℕ → List Iv → ℕ
last_start from [] = from
last_start from (x ∷ xs) = last_start x.lo xs

-- where a further interval may begin that touches none; the number where there is none yet
abbrev pub past : ℕ → List Iv → ℕ
past from [] = from
past from (x ∷ xs) = past (x.hi + 2) xs

-- regular lists with the same members are equal
abbrev pub SameMembersSameList : Type 0
SameMembersSameList = (s t : List Iv) → IsRegular s → IsRegular t → ((v : ℕ) → has s v ≡ has t v) → s ≡ t

-- the set with the numbers from lo to hi, of which lo is no greater: an interval of its own, ahead of the first that begins
-- past it and doesn't touch it, or joined with those that it touches
abbrev pub with_range : ℕ → ℕ → List Iv → List Iv
with_range lo hi [] = record { lo = lo; hi = hi } ∷ []
with_range lo hi (x ∷ xs) =
    if nat_lt (hi + 1) x.lo then record { lo = lo; hi = hi } ∷ x ∷ xs
    else if nat_lt (x.hi + 1) lo then x ∷ with_range lo hi xs
    else with_range (min lo x.lo) (max hi x.hi) xs

-- a range more keeps a list regular
abbrev pub RangesAreRegular : Type 0
RangesAreRegular = (lo hi : ℕ) (s : List Iv) → lo ≤ hi → IsRegular s → IsRegular (with_range lo hi s)

-- each of the ranges has a number
abbrev pub AreRanges : List Iv → Type 0
AreRanges ranges = All (λ x. x.lo ≤ x.hi) ranges

-- the set with the numbers of each range, one range after another
abbrev pub with_ranges : List Iv → List Iv → List Iv
with_ranges s [] = s
with_ranges s (x ∷ ranges) = with_ranges (with_range x.lo x.hi s) ranges

-- a further range adds its numbers
abbrev pub RangesAddMembers : Type 0
RangesAddMembers =
    (lo hi : ℕ) (s : List Iv) → lo ≤ hi → IsRegular s → (v : ℕ) → has (with_range lo hi s) v ≡ (has s v || (nat_le lo v && nat_le v hi))

-- ranges from the empty set on make a regular list, whose members are their numbers
abbrev pub ManyRangesAddMembers : Type 0
ManyRangesAddMembers =
    (ranges : List Iv) → AreRanges ranges → IsRegular (with_ranges [] ranges) × ((v : ℕ) → has (with_ranges [] ranges) v ≡ has ranges v)
