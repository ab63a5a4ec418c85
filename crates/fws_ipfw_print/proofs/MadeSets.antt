-- Sets are read as what their printed items make up.
use Rattle.std.proofs.Common.{◌≡◌, ℕ, zero, suc, ◌+◌, ◌-◌, ◌≤◌, Bool, true, false, ◌&&◌, ◌||◌, nat_le, nat_lt, List, [], ◌∷◌, map, refl, ap, ap₂, ◌∙◌, arith}
use Rattle.std.proofs.lemmas.Bool.{and_from, and_parts, leb-true, le-leb}
use Rattle.std.proofs.lemmas.Bool.Decides.{nat_tests}
use Rattle.std.proofs.lemmas.List.{map-append}
use Rattle.std.proofs.lemmas.List.Elements.{All-cons, All-nil}
use Rattle.std.proofs.lemmas.List.Folds.{list_any-append}
use Rattle.std.specs.List.{flat_map, list_all, range_with_len}
use Rattle.fws_iv.specs.declared.iv.Iv.{Iv}
use Rattle.fws_iv.specs.Ivs.{has, in_part, AreRanges, IsRegularFrom, with_ranges}
use Rattle.fws_print.specs.Sets.{ascend_from}
use Rattle.fws_ipfw_print.proofs.Laws.{Laws}

abbrev pub is_ordered : Iv → Bool
is_ordered iv = nat_le iv.lo iv.hi

pub ordered_ranges : (ranges : List Iv) → list_all is_ordered ranges ≡ true → AreRanges ranges
ordered_ranges [] h = All-nil (λ (x : Iv). x.lo ≤ x.hi)
ordered_ranges (iv ∷ ranges) h =
    let parts = and_parts (is_ordered iv) (list_all is_ordered ranges) h in
    All-cons (λ (x : Iv). x.lo ≤ x.hi) iv ranges (leb-true iv.lo iv.hi parts.0) (ordered_ranges ranges parts.1)

-- what is known of the first of ascending ranges, and of the others
pub record IsFirst (most from : ℕ) (iv : Iv) (set : List Iv) : Type 0 where
  pub begins : from ≤ iv.lo
  pub order : iv.lo ≤ iv.hi
  pub within : iv.hi ≤ most
  pub others : ascend_from most (iv.hi + 2) set ≡ true

pub first_known : (most from : ℕ) (iv : Iv) (set : List Iv) → ascend_from most from (iv ∷ set) ≡ true → IsFirst most from iv set
first_known most from iv set h =
    let last = and_parts (nat_le from iv.lo && nat_le iv.lo iv.hi && nat_le iv.hi most) (ascend_from most (iv.hi + 2) set) h in
    let third = and_parts (nat_le from iv.lo && nat_le iv.lo iv.hi) (nat_le iv.hi most) last.0 in
    let first = and_parts (nat_le from iv.lo) (nat_le iv.lo iv.hi) third.0 in
    record { begins = leb-true from iv.lo first.0; order = leb-true iv.lo iv.hi first.1; within = leb-true iv.hi most third.1; others = last.1 }

pub ascending_regular : (most from : ℕ) (set : List Iv) → ascend_from most from set ≡ true → IsRegularFrom from set
ascending_regular most from [] h = tt
ascending_regular most from (iv ∷ set) h =
    let is = first_known most from iv set h in
    (is.begins, is.order, ascending_regular most (iv.hi + 2) set is.others)

pub ascending_ordered : (most from : ℕ) (set : List Iv) → ascend_from most from set ≡ true → list_all is_ordered set ≡ true
ascending_ordered most from [] h = refl
ascending_ordered most from (iv ∷ set) h =
    let is = first_known most from iv set h in
    and_from (is_ordered iv) (list_all is_ordered set) (le-leb iv.lo iv.hi is.order) (ascending_ordered most (iv.hi + 2) set is.others)

pub ascending_within : (most from : ℕ) (set : List Iv) → ascend_from most from set ≡ true → list_all (λ iv. nat_le iv.hi most) set ≡ true
ascending_within most from [] h = refl
ascending_within most from (iv ∷ set) h =
    let is = first_known most from iv set h in
    and_from (nat_le iv.hi most) (list_all (λ iv. nat_le iv.hi most) set) (le-leb iv.hi most is.within) (ascending_within most (iv.hi + 2) set is.others)

-- ranges with the members of a regular set make it up
pub made_up : Laws → (most : ℕ) (set ranges : List Iv) → ascend_from most 0 set ≡ true → list_all is_ordered ranges ≡ true → ((v : ℕ) → has ranges v ≡ has set v) → with_ranges [] ranges ≡ set
made_up laws most set ranges h ordered same =
    let made = laws.ranges ranges (ordered_ranges ranges ordered) in
    laws.same (with_ranges [] ranges) set made.0 (ascending_regular most 0 set h) (λ v. made.1 v ∙ same v)

-- the parts of each range have its members
pub parts_members : {A : Type 0} (range : A → Iv) (parts : Iv → List A) (fits : Iv → Bool) → ((iv : Iv) → fits iv ≡ true → (v : ℕ) → has (map range (parts iv)) v ≡ in_part iv v)
    → (set : List Iv) → list_all fits set ≡ true → (v : ℕ) → has (map range (flat_map parts set)) v ≡ has set v
parts_members range parts fits one [] h v = refl
parts_members range parts fits one (iv ∷ set) h v =
    let both = and_parts (fits iv) (list_all fits set) h in
    ap (λ ranges. has ranges v) (map-append range (parts iv) (flat_map parts set))
    ∙ list_any-append (λ x. in_part x v) (map range (parts iv)) (map range (flat_map parts set))
    ∙ ap₂ (λ a b. a || b) (one iv both.0 v) (parts_members range parts fits one set both.1 v)

-- Numbers of a range, each alone

abbrev pub alone : ℕ → Iv
alone n = record { lo = n; hi = n }

pub alone_ordered : (numbers : List ℕ) → list_all is_ordered (map alone numbers) ≡ true
alone_ordered [] = refl
alone_ordered (n ∷ numbers) = and_from (nat_le n n) (list_all is_ordered (map alone numbers)) (le-leb n n (omega arith)) (alone_ordered numbers)

none_left : (a v : ℕ) → false ≡ (nat_le a v && nat_lt v (a + 0))
none_left a v = grind (arith, nat_tests)

one_more : (a k v : ℕ) → (nat_le a v && nat_le v a || (nat_le (a + 1) v && nat_lt v (a + 1 + k))) ≡ (nat_le a v && nat_lt v (a + suc k))
one_more a k v = grind (arith, nat_tests)

numbers_members : (a k v : ℕ) → has (map alone (range_with_len a k)) v ≡ (nat_le a v && nat_lt v (a + k))
numbers_members a zero v = none_left a v
numbers_members a (suc k) v = ap (λ b. (nat_le a v && nat_le v a) || b) (numbers_members (a + 1) k v) ∙ one_more a k v

to_end : (lo hi v : ℕ) → lo ≤ hi → (nat_le lo v && nat_lt v (lo + (hi + 1 - lo))) ≡ (nat_le lo v && nat_le v hi)
to_end lo hi v h = (let same : lo + (hi + 1 - lo) ≡ hi + 1 = omega arith in ap (λ k. nat_le lo v && nat_lt v k) same ∙ last lo hi v)
  where
    last : (lo hi v : ℕ) → (nat_le lo v && nat_lt v (hi + 1)) ≡ (nat_le lo v && nat_le v hi)
    last lo hi v = grind (arith, nat_tests)

pub range_numbers : (iv : Iv) → is_ordered iv ≡ true → (v : ℕ) → has (map alone (range_with_len iv.lo (iv.hi + 1 - iv.lo))) v ≡ in_part iv v
range_numbers iv h v = numbers_members iv.lo (iv.hi + 1 - iv.lo) v ∙ to_end iv.lo iv.hi v (leb-true iv.lo iv.hi h)
