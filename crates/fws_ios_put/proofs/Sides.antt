-- The sides of translation: ranges of entries that ascend, none on both.
use Rattle.std.proofs.Common.{◌≡◌, inl, inr, ℕ, zero, suc, ◌+◌, ◌<◌, ◌≤◌, Bool, true, false, ◌&&◌, not, List, [], ◌∷◌, length, refl, sym, ◌∙◌, arith}
use Rattle.std.proofs.lemmas.Bool.{and_from, and_parts, cases_lt, false≢true, false_from_ne_true, le-leb, leb-true, not_from_false, or_cases, or_from, or_left, or_right}
use Rattle.std.specs.List.{list_any}
use Rattle.std.specs.Option.{option_map_or}
use Rattle.std.specs.Prelude.{nat_le, slice_get}
use Rattle.fws_iv.specs.declared.iv.Iv.{Iv}
use Rattle.fws_iv.specs.Ivs.{has, in_part, IsRegularFrom}
use Rattle.fws_net.specs.declared.site.Iface.{Iface}
use Rattle.fws_net.specs.declared.site.Side.{Side}
use Rattle.fws_net.specs.declared.site.Side.TheVariants.{Neither, Inside, Outside}
use Rattle.fws_net.specs.declared.site.Site.{Site}
use Rattle.fws_ios_print.specs.Printable.{are_sides, face_count, meets, ranges_ascend, sides_differ}
use Rattle.fws_ios_put_sources.specs.Sources.{is_on}
use Rattle.fws_place.specs.Rewritings.{side_of}

-- Ranges

in_range : (iv : Iv) (n : ℕ) → iv.lo ≤ n → n ≤ iv.hi → in_part iv n ≡ true
in_range iv n low high = and_from (nat_le iv.lo n) (nat_le n iv.hi) (le-leb iv.lo n low) (le-leb n iv.hi high)

-- members of ranges from a number on aren't below it
members_from : (from : ℕ) (s : List Iv) (n : ℕ) → IsRegularFrom from s → has s n ≡ true → from ≤ n
members_from from [] n regular h = absurd (false≢true h)
members_from from (iv ∷ s) n regular h = elim (or_cases (in_part iv n) (has s n) h) [
  | inl here ↦ (let low : iv.lo ≤ n = leb-true iv.lo n (and_parts (nat_le iv.lo n) (nat_le n iv.hi) here).0 in let begun = regular.0 in omega arith)
  | inr there ↦ (let low = members_from (iv.hi + 2) s n regular.2 there in let begun = regular.0 in let order = regular.1 in omega arith)
]

pub ascending : (from least most : ℕ) (s : List Iv) → IsRegularFrom from s → ((n : ℕ) → has s n ≡ true → (least ≤ n) × (n ≤ most)) → ranges_ascend least most s ≡ true
ascending from least most [] regular within = refl
ascending from least most (iv ∷ s) regular within =
    let first = within iv.lo (or_left _ _ (in_range iv iv.lo (omega arith) regular.1)) in
    let last = within iv.hi (or_left _ _ (in_range iv iv.hi regular.1 (omega arith))) in
    and_from (nat_le least iv.lo && nat_le iv.lo iv.hi && nat_le iv.hi most) (ranges_ascend (iv.hi + 2) most s)
    (and_from (nat_le least iv.lo && nat_le iv.lo iv.hi) (nat_le iv.hi most)
    (and_from (nat_le least iv.lo) (nat_le iv.lo iv.hi) (le-leb least iv.lo first.0) (le-leb iv.lo iv.hi regular.1)) (le-leb iv.hi most last.1))
    (ascending (iv.hi + 2) (iv.hi + 2) most s regular.2 (λ n h. (members_from (iv.hi + 2) s n regular.2 h, (within n (or_right (in_part iv n) (has s n) h)).1)))

-- Two sides

-- ranges that meet have a number in common
common : (a b : Iv) → a.lo ≤ a.hi → b.lo ≤ b.hi → meets a b ≡ true → (n : ℕ) × (in_part a n ≡ true) × (in_part b n ≡ true)
common a b order order_b h =
    let both = and_parts (nat_le a.lo b.hi) (nat_le b.lo a.hi) h in
    let low : a.lo ≤ b.hi = leb-true a.lo b.hi both.0 in
    let high : b.lo ≤ a.hi = leb-true b.lo a.hi both.1 in
    elim (cases_lt a.lo b.lo) [
      | inl lt ↦ (b.lo, in_range a b.lo (omega arith) high, in_range b b.lo (omega arith) order_b)
      | inr ge ↦ (a.lo, in_range a a.lo (omega arith) order, in_range b a.lo ge low)
    ]

none_meets : (a : Iv) (from : ℕ) (t : List Iv) → a.lo ≤ a.hi → IsRegularFrom from t → ((n : ℕ) → in_part a n ≡ true → has t n ≡ true → ⊥) → list_any (meets a) t ≡ false
none_meets a from [] order regular apart = refl
none_meets a from (b ∷ t) order regular apart =
    or_from (meets a b) (list_any (meets a) t)
    (false_from_ne_true (meets a b) (λ h. let both = common a b order regular.1 h in apart both.0 both.1 (or_left (in_part b both.0) (has t both.0) both.2)))
    (none_meets a (b.hi + 2) t order regular.2 (λ n here there. apart n here (or_right (in_part b n) (has t n) there)))

pub differ : (from start : ℕ) (s t : List Iv) → IsRegularFrom from s → IsRegularFrom start t → ((n : ℕ) → has s n ≡ true → has t n ≡ true → ⊥) → sides_differ s t ≡ true
differ from start [] t regular other apart = refl
differ from start (a ∷ s) t regular other apart =
    and_from (not (list_any (meets a) t)) (sides_differ s t)
    (not_from_false (list_any (meets a) t) (none_meets a start t regular.1 other (λ n here there. apart n (or_left (in_part a n) (has s n) here) there)))
    (differ (a.hi + 2) start s t regular.2 other (λ n here there. apart n (or_right (in_part a n) (has s n) here) there))

-- Entries with a side

-- an entry with a side is that of an interface
on_side : (site : Site) (outside : Bool) (n : ℕ) → is_on outside (side_of site n) ≡ true → (1 ≤ n) × (n ≤ face_count site)
on_side site outside zero h = absurd (none outside h) where
  none : (o : Bool) → is_on o Neither ≡ true → ⊥
  none true h = false≢true h
  none false h = false≢true h
on_side site outside (suc zero) h = absurd (none outside h) where
  none : (o : Bool) → is_on o Neither ≡ true → ⊥
  none true h = false≢true h
  none false h = false≢true h
on_side site outside (suc (suc n)) h = let lt = below site.faces n h in (omega arith, omega arith) where
  none : (o : Bool) → is_on o Neither ≡ true → ⊥
  none true h = false≢true h
  none false h = false≢true h

  below : (faces : List Iface) (k : ℕ) → is_on outside (option_map_or (λ (face : Iface). face.side) (slice_get faces k) Neither) ≡ true → k < length faces
  below [] k h = absurd (none outside h)
  below (face ∷ faces) zero h = omega arith
  below (face ∷ faces) (suc k) h = let lt = below faces k h in omega arith

not_both : (side : Side) → is_on false side ≡ true → is_on true side ≡ true → ⊥
not_both Neither a b = false≢true a
not_both Inside a b = false≢true b
not_both Outside a b = false≢true a

pub good_sides : (site : Site) (inside outside : List Iv) → ((n : ℕ) → has inside n ≡ is_on false (side_of site n)) → ((n : ℕ) → has outside n ≡ is_on true (side_of site n))
    → IsRegularFrom 0 inside → IsRegularFrom 0 outside → are_sides site inside outside ≡ true
good_sides site inside outside ins outs regular other =
    and_from (ranges_ascend 1 (face_count site) inside && ranges_ascend 1 (face_count site) outside) (sides_differ inside outside)
    (and_from (ranges_ascend 1 (face_count site) inside) (ranges_ascend 1 (face_count site) outside)
    (ascending 0 1 (face_count site) inside regular (λ n h. on_side site false n (sym (ins n) ∙ h)))
    (ascending 0 1 (face_count site) outside other (λ n h. on_side site true n (sym (outs n) ∙ h))))
    (differ 0 0 inside outside regular other (λ n a b. not_both (side_of site n) (sym (ins n) ∙ a) (sym (outs n) ∙ b)))
