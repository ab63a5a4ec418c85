-- The sides of interfaces are the sets that their marks give.
use Rattle.std.proofs.Common.{◌≡◌, ◌≢◌, ℕ, zero, suc, ◌+◌, ◌<◌, ◌≤◌, Bool, true, false, cond, ◌&&◌, ◌||◌, not, nat_eq, nat_le, List, [], ◌∷◌, ◌++◌, refl, ap, sym, ◌∙◌, arith, inl, inr}
use Rattle.std.proofs.lemmas.Bool.{and_from, and_parts, and_right, or_cases, or_parts, or_right, or_left, leb-true, le-leb, eqb-true, eqb-false, not-true, cases_Bool, false_from_ne_true}
use Rattle.std.specs.List.{list_any}
use Rattle.fws_iv.specs.declared.iv.Iv.{Iv}
use Rattle.fws_iv.specs.Ivs.{has, in_part, IsRegular, IsRegularFrom, with_range}
use Rattle.fws_ios.specs.declared.config.IosConfig.{IosConfig}
use Rattle.fws_ios.specs.declared.draft.Marked.{Marked}
use Rattle.fws_ios.specs.FileText.{with_marked}
use Rattle.fws_ios_print.specs.Printable.{meets, ranges_ascend, sides_differ}
use Rattle.fws_ios_print.proofs.Basics.{never}
use Rattle.fws_ios_print.proofs.FacesRead.{marks_at, marks_from, side_marks}
use Rattle.fws_ios_print.proofs.Laws.{Laws}

-- Sets of ranges that ascend

ranges_regular : (least most : ℕ) (set : List Iv) → ranges_ascend least most set ≡ true → IsRegularFrom least set
ranges_regular least most [] h = tt
ranges_regular least most (iv ∷ set) h =
    let p3 = and_parts (nat_le least iv.lo && nat_le iv.lo iv.hi && nat_le iv.hi most) (ranges_ascend (iv.hi + 2) most set) h in
    let p2 = and_parts (nat_le least iv.lo && nat_le iv.lo iv.hi) (nat_le iv.hi most) p3.0 in
    let p1 = and_parts (nat_le least iv.lo) (nat_le iv.lo iv.hi) p2.0 in
    (leb-true least iv.lo p1.0, leb-true iv.lo iv.hi p1.1, ranges_regular (iv.hi + 2) most set p3.1)

regular_below : (from low : ℕ) (set : List Iv) → low ≤ from → IsRegularFrom from set → IsRegularFrom low set
regular_below from low [] le h = tt
regular_below from low (iv ∷ set) le h = (let a : from ≤ iv.lo = h.0 in (omega arith, h.1, h.2))

-- members lie within the bounds
within : (least most : ℕ) (set : List Iv) (v : ℕ) → ranges_ascend least most set ≡ true → has set v ≡ true → (least ≤ v) × (v ≤ most)
within least most [] v h k = never k
within least most (iv ∷ set) v h k =
    let p3 = and_parts (nat_le least iv.lo && nat_le iv.lo iv.hi && nat_le iv.hi most) (ranges_ascend (iv.hi + 2) most set) h in
    let p2 = and_parts (nat_le least iv.lo && nat_le iv.lo iv.hi) (nat_le iv.hi most) p3.0 in
    let p1 = and_parts (nat_le least iv.lo) (nat_le iv.lo iv.hi) p2.0 in
    let a : least ≤ iv.lo = leb-true least iv.lo p1.0 in
    let b : iv.lo ≤ iv.hi = leb-true iv.lo iv.hi p1.1 in
    let c : iv.hi ≤ most = leb-true iv.hi most p2.1 in
    elim (or_cases (in_part iv v) (has set v) k) [
      | inl e ↦
          (let q = and_parts (nat_le iv.lo v) (nat_le v iv.hi) e in
          let d : iv.lo ≤ v = leb-true iv.lo v q.0 in
          let f : v ≤ iv.hi = leb-true v iv.hi q.1 in
          (omega arith, omega arith))
      | inr e ↦ (let is = within (iv.hi + 2) most set v p3.1 e in let d : iv.hi + 2 ≤ v = is.0 in (omega arith, is.1))
    ]

-- No interface is on both sides

no_meeting : (a : Iv) (set : List Iv) (v : ℕ) → list_any (meets a) set ≡ false → in_part a v ≡ true → has set v ≡ true → ⊥
no_meeting a [] v off h k = never k
no_meeting a (b ∷ set) v off h k =
    let parts = or_parts (meets a b) (list_any (meets a) set) off in
    let p = and_parts (nat_le a.lo v) (nat_le v a.hi) h in
    let a1 : a.lo ≤ v = leb-true a.lo v p.0 in
    let a2 : v ≤ a.hi = leb-true v a.hi p.1 in
    elim (or_cases (in_part b v) (has set v) k) [
      | inl e ↦
          (let q = and_parts (nat_le b.lo v) (nat_le v b.hi) e in
          let b1 : b.lo ≤ v = leb-true b.lo v q.0 in
          let b2 : v ≤ b.hi = leb-true v b.hi q.1 in
          never (sym parts.0 ∙ and_from (nat_le a.lo b.hi) (nat_le b.lo a.hi) (le-leb a.lo b.hi (omega arith)) (le-leb b.lo a.hi (omega arith))))
      | inr e ↦ no_meeting a set v parts.1 h e
    ]

pub none_common : (inside outside : List Iv) (v : ℕ) → sides_differ inside outside ≡ true → has inside v ≡ true → has outside v ≡ true → ⊥
none_common [] outside v off h k = never h
none_common (a ∷ inside) outside v off h k =
    let parts = and_parts (not (list_any (meets a) outside)) (sides_differ inside outside) off in
    elim (or_cases (in_part a v) (has inside v) h) [
      | inl e ↦ no_meeting a outside v (not-true (list_any (meets a) outside) parts.0) e k
      | inr e ↦ none_common inside outside v parts.1 e k
    ]

-- Marks

-- marks of this side
abbrev matches : Bool → Bool → Bool
matches outside other = cond outside other (not other)

-- some mark of this side is that of the interface
abbrev marked : Bool → List Marked → ℕ → Bool
marked outside [] v = false
marked outside (m ∷ ms) v = (matches outside m.outside && nat_eq m.face v) || marked outside ms v

marked_append : (outside : Bool) (xs ys : List Marked) (v : ℕ) → marked outside (xs ++ ys) v ≡ (marked outside xs v || marked outside ys v)
marked_append outside [] ys v = refl
marked_append outside (m ∷ xs) ys v = ap (λ b. (matches outside m.outside && nat_eq m.face v) || b) (marked_append outside xs ys v) ∙ grouped (matches outside m.outside && nat_eq m.face v) (marked outside xs v) (marked outside ys v)
  where
    grouped : (a b c : Bool) → (a || (b || c)) ≡ ((a || b) || c)
    grouped true b c = refl
    grouped false b c = refl

side_marked : (outside side : Bool) (set : List Iv) (face v : ℕ) → marked outside (side_marks side set face) v ≡ ((matches outside side && nat_eq face v) && has set v)
side_marked outside side set face v = by_number (nat_eq face v) refl
  where
    own : (h : Bool) → marked outside (cond h (record { face = face; outside = side } ∷ []) []) v ≡ ((matches outside side && nat_eq face v) && h)
    own true = simple (matches outside side && nat_eq face v)
      where
        simple : (b : Bool) → (b || false) ≡ (b && true)
        simple true = refl
        simple false = refl
    own false = sym (and_right (matches outside side && nat_eq face v) false refl)

    by_number : (b : Bool) → nat_eq face v ≡ b → marked outside (side_marks side set face) v ≡ ((matches outside side && nat_eq face v) && has set v)
    by_number true e = own (has set face) ∙ ap (λ k. (matches outside side && nat_eq face v) && has set k) (eqb-true face v e)
    by_number false e =
        own (has set face) ∙ and_left (matches outside side && nat_eq face v) (has set face) (and_right (matches outside side) (nat_eq face v) e)
        ∙ sym (and_left (matches outside side && nat_eq face v) (has set v) (and_right (matches outside side) (nat_eq face v) e))
      where
        and_left : (a b : Bool) → a ≡ false → (a && b) ≡ false
        and_left a b h = ap (λ x. x && b) h

-- the set of a side
abbrev side_of : IosConfig → Bool → List Iv
side_of c outside = cond outside c.outside c.inside

at_marked : (c : IosConfig) (outside : Bool) (face v : ℕ) → marked outside (marks_at c face) v ≡ (nat_eq face v && has (side_of c outside) v)
at_marked c true face v =
    marked_append true (side_marks false c.inside face) (side_marks true c.outside face) v
    ∙ ap (λ b. b || marked true (side_marks true c.outside face) v) (side_marked true false c.inside face v) ∙ side_marked true true c.outside face v
at_marked c false face v =
    marked_append false (side_marks false c.inside face) (side_marks true c.outside face) v
    ∙ ap (λ b. marked false (side_marks false c.inside face) v || b) (side_marked false true c.outside face v) ∙ ap (λ b. b || false) (side_marked false false c.inside face v)
    ∙ same (nat_eq face v && has c.inside v)
  where
    same : (b : Bool) → (b || false) ≡ b
    same true = refl
    same false = refl

-- one of so many numbers from one on
abbrev is_from : ℕ → ℕ → ℕ → Bool
is_from zero face v = false
is_from (suc count) face v = nat_eq face v || is_from count (face + 1) v

is_one : (count face v : ℕ) → face ≤ v → v < face + count → is_from count face v ≡ true
is_one zero face v low high = absurd (omega arith)
is_one (suc count) face v low high =
    elim (cases_Bool (nat_eq face v)) [
      | inl e ↦ or_left (nat_eq face v) (is_from count (face + 1) v) e
      | inr e ↦ (let other : face ≢ v = eqb-false face v e in or_right (nat_eq face v) (is_from count (face + 1) v) (is_one count (face + 1) v (omega arith) (omega arith)))
    ]

from_marked : (c : IosConfig) (outside : Bool) (count face v : ℕ) → marked outside (marks_from c count face) v ≡ (is_from count face v && has (side_of c outside) v)
from_marked c outside zero face v = refl
from_marked c outside (suc count) face v =
    marked_append outside (marks_at c face) (marks_from c count (face + 1)) v
    ∙ ap (λ b. b || marked outside (marks_from c count (face + 1)) v) (at_marked c outside face v)
    ∙ ap (λ b. (nat_eq face v && has (side_of c outside) v) || b) (from_marked c outside count (face + 1) v)
    ∙ together (nat_eq face v) (is_from count (face + 1) v) (has (side_of c outside) v)
  where
    together : (a b h : Bool) → ((a && h) || (b && h)) ≡ ((a || b) && h)
    together true true true = refl
    together true true false = refl
    together true false true = refl
    together true false false = refl
    together false b h = refl

-- Sets that marks give

one_number : (face v : ℕ) → (nat_le face v && nat_le v face) ≡ nat_eq face v
one_number face v = by_test (nat_eq face v) refl
  where
    by_test : (b : Bool) → nat_eq face v ≡ b → (nat_le face v && nat_le v face) ≡ b
    by_test true e = (let same : face ≡ v = eqb-true face v e in and_from (nat_le face v) (nat_le v face) (le-leb face v (omega arith)) (le-leb v face (omega arith)))
    by_test false e =
        false_from_ne_true (nat_le face v && nat_le v face)
        (λ h.
        let p = and_parts (nat_le face v) (nat_le v face) h in
        let a : face ≤ v = leb-true face v p.0 in
        let b : v ≤ face = leb-true v face p.1 in
        let other : face ≢ v = eqb-false face v e in
        absurd (omega arith))

module _ (laws : Laws) where
  record IsMarked (outside : Bool) (set : List Iv) (ms : List Marked) : Type 0 where
    regular : IsRegular (with_marked outside set ms)
    members : (v : ℕ) → has (with_marked outside set ms) v ≡ (has set v || marked outside ms v)

  all_marked : (outside : Bool) (set : List Iv) (ms : List Marked) → IsRegular set → IsMarked outside set ms
  all_marked outside set [] h = record { regular = h; members = λ v. same (has set v) }
    where
      same : (b : Bool) → b ≡ (b || false)
      same true = refl
      same false = refl
  all_marked outside set (m ∷ ms) h = (let is = by_side (matches outside m.outside) (λ set h. all_marked outside set ms h) in record { regular = is.0; members = is.1 })
    where
      grouped : (a b c : Bool) → ((a || b) || c) ≡ (a || (b || c))
      grouped true b c = refl
      grouped false b c = refl

      by_side : (b : Bool) → ((set : List Iv) → IsRegular set → IsMarked outside set ms) → IsRegular (with_marked outside (cond b (with_range m.face m.face set) set) ms)
          × ((v : ℕ) → has (with_marked outside (cond b (with_range m.face m.face set) set) ms) v ≡ (has set v || ((b && nat_eq m.face v) || marked outside ms v)))
      by_side true rest =
          let is = rest (with_range m.face m.face set) (laws.ranges_regular m.face m.face set (omega arith) h) in (
            is.regular,
            λ v.
                is.members v ∙ ap (λ b. b || marked outside ms v) (laws.ranges_members m.face m.face set (omega arith) h v ∙ ap (λ b. has set v || b) (one_number m.face v))
                ∙ grouped (has set v) (nat_eq m.face v) (marked outside ms v),
          )
      by_side false rest = (let is = rest set h in (is.regular, is.members))

  -- the marks of all interfaces give each side
  pub side_marked_back : (c : IosConfig) (outside : Bool) (count : ℕ) → ranges_ascend 1 count (side_of c outside) ≡ true → with_marked outside [] (marks_from c count 1) ≡ side_of c outside
  side_marked_back c outside count h =
      let set = side_of c outside in
      let is = all_marked outside [] (marks_from c count 1) tt in
      laws.same_members (with_marked outside [] (marks_from c count 1)) set is.regular (regular_below 1 0 set (omega arith) (ranges_regular 1 count set h))
      (λ v. is.members v ∙ from_marked c outside count 1 v ∙ all_there (has set v) v refl)
    where
      all_there : (b : Bool) (v : ℕ) → has (side_of c outside) v ≡ b → (is_from count 1 v && b) ≡ b
      all_there true v e = (let is = within 1 count (side_of c outside) v h e in let high : v ≤ count = is.1 in and_from (is_from count 1 v) true (is_one count 1 v is.0 (omega arith)) refl)
      all_there false v e = and_right (is_from count 1 v) false refl
