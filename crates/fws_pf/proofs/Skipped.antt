-- The interfaces that are skipped are those of the site.
use Rattle.std.proofs.Common.{◌≡◌, ℕ, ◌+◌, ◌-◌, ◌≤◌, ◌<◌, min, max, Bool, true, false, nat_le, nat_lt, List, [], ◌∷◌, arith, refl}
use Rattle.std.specs.List.{list_all}
use Rattle.std.proofs.lemmas.Bool.{and_parts, and_from, cond_both, leb-true, le-leb, ltb-true}
use Rattle.fws_iv.specs.declared.iv.Iv.{Iv}
use Rattle.fws_iv.specs.Ivs.{with_range, with_ranges}
use Rattle.fws_rules.specs.Literals.{one}
use Rattle.fws_pf.specs.declared.value_draft.Item.{Item}
use Rattle.fws_pf.specs.declared.value_draft.Part.{Part}
use Rattle.fws_pf.specs.declared.value_draft.Part.TheVariants as parts
use Rattle.fws_pf.specs.declared.value_draft.ValueKind.TheVariants as kinds
use Rattle.fws_pf.specs.FileText.{skipped_ranges, with_skipped}
use Rattle.fws_pf.specs.Soundness.{is_entry}
use Rattle.fws_pf.specs.Values.{from_below}
use Rattle.fws_pf.proofs.Lists.{all_both}
use Rattle.fws_pf.proofs.Readings.{item_fits, any_sign, entry_part}

module _ (last : ℕ) where
  abbrev Entries : List Iv → Type 0
  Entries set = list_all (is_entry last) set ≡ true

  entries_from : (x : Iv) (xs : List Iv) → 1 ≤ x.lo → x.hi ≤ last → Entries xs → Entries (x ∷ xs)
  entries_from x xs low high h = and_from (is_entry last x) (list_all (is_entry last) xs) (and_from (nat_le 1 x.lo) (nat_le x.hi last) (le-leb 1 x.lo low) (le-leb x.hi last high)) h

  range_kept : (lo hi : ℕ) (set : List Iv) → 1 ≤ lo → hi ≤ last → Entries set → Entries (with_range lo hi set)
  range_kept lo hi [] low high h = entries_from (record { lo = lo; hi = hi }) [] low high refl
  range_kept lo hi (x ∷ xs) low high h =
      let both = and_parts (is_entry last x) (list_all (is_entry last) xs) h in
      let ends = and_parts (nat_le 1 x.lo) (nat_le x.hi last) both.0 in
      let from : 1 ≤ x.lo = leb-true 1 x.lo ends.0 in
      let to : x.hi ≤ last = leb-true x.hi last ends.1 in
      cond_both (nat_lt (hi + 1) x.lo) (record { lo = lo; hi = hi } ∷ x ∷ xs) _ Entries
      (λ e. entries_from (record { lo = lo; hi = hi }) (x ∷ xs) low high h)
      (λ e. cond_both (nat_lt (x.hi + 1) lo) (x ∷ with_range lo hi xs) (with_range (min lo x.lo) (max hi x.hi) xs) Entries
      (λ k. entries_from x (with_range lo hi xs) from to (range_kept lo hi xs low high both.1))
      (λ k. range_kept (min lo x.lo) (max hi x.hi) xs (omega arith) (omega arith) both.1))

  ranges_kept : (set ranges : List Iv) → Entries set → Entries ranges → Entries (with_ranges set ranges)
  ranges_kept set [] h k = h
  ranges_kept set (x ∷ ranges) h k =
      let both = and_parts (is_entry last x) (list_all (is_entry last) ranges) k in
      let ends = and_parts (nat_le 1 x.lo) (nat_le x.hi last) both.0 in
      ranges_kept (with_range x.lo x.hi set) ranges (range_kept x.lo x.hi set (leb-true 1 x.lo ends.0) (leb-true x.hi last ends.1) h) both.1

  below_kept : (lo end : ℕ) → 1 ≤ lo → end ≤ last + 1 → Entries (from_below lo end)
  below_kept lo end low high =
      cond_both (nat_lt lo end) (one lo (end - 1)) [] Entries
      (λ e.
      let below : lo < end = ltb-true lo end e in
      entries_from (record { lo = lo; hi = end - 1 }) [] low (omega arith) refl)
      (λ e. refl)

  skipped_entries : (negated : Bool) (part : Part) → entry_part last part ≡ true → Entries (skipped_ranges last negated part)
  skipped_entries true (parts.Set (x ∷ xs)) h =
      let ends = and_parts (nat_le 1 x.lo) (nat_le x.lo last) h in
      let from : 1 ≤ x.lo = leb-true 1 x.lo ends.0 in
      let to : x.lo ≤ last = leb-true x.lo last ends.1 in
      all_both (is_entry last) (from_below 1 x.lo) (from_below (x.lo + 1) (last + 1)) (below_kept 1 x.lo (omega arith) (omega arith))
      (below_kept (x.lo + 1) (last + 1) (omega arith) (omega arith))
  skipped_entries false (parts.Set (x ∷ xs)) h =
      let ends = and_parts (nat_le 1 x.lo) (nat_le x.lo last) h in
      entries_from (record { lo = x.lo; hi = x.lo }) [] (leb-true 1 x.lo ends.0) (leb-true x.lo last ends.1) refl
  skipped_entries negated _ h = refl

  pub skipped_kept : (set : List Iv) (items : List Item) → list_all (is_entry last) set ≡ true → list_all (item_fits kinds.Interface any_sign (entry_part last)) items ≡ true
      → list_all (is_entry last) (with_skipped last set items) ≡ true
  skipped_kept set [] h k = h
  skipped_kept set (item ∷ items) h k =
      let both = and_parts (entry_part last item.part) (list_all (item_fits kinds.Interface any_sign (entry_part last)) items) k in
      skipped_kept (with_ranges set (skipped_ranges last item.negated item.part)) items
      (ranges_kept set (skipped_ranges last item.negated item.part) h (skipped_entries item.negated item.part both.0)) both.1
