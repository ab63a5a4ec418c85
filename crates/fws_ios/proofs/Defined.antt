-- The lists of a text fit, and no two have the same name.
use Rattle.std.proofs.Common.{◌≡◌, ℕ, Bool, true, false, ◌&&◌, not, List, [], ◌∷◌, ◌++◌, bytes_eq, refl, sym}
use Rattle.std.specs.List.{list_all, list_any}
use Rattle.std.proofs.lemmas.Bool.{both_ways, false_from_ne_true, not-true, not_from_false, and_parts, and_from, or_parts, or_from, cond_both}
use Rattle.std.proofs.lemmas.Slice.Eq.{bytes_eq-Decides}
use Rattle.fws_ios.specs.declared.config.IosEntry.{IosEntry}
use Rattle.fws_ios.specs.declared.config.IosList.{IosList}
use Rattle.fws_ios.specs.FileText.{with_last, with_entry}
use Rattle.fws_ios.specs.Soundness.{entry_fits, is_empty, list_fits, are_apart}
use Rattle.fws_ios.proofs.Lists.{all_longer}

-- names that differ do so both ways
other_ways : (a b : List ℕ) → bytes_eq a b ≡ false → bytes_eq b a ≡ false
other_ways a b e = false_from_ne_true (bytes_eq b a) (λ k. both_ways (bytes_eq a b) e ((bytes_eq-Decides a b).1 (sym ((bytes_eq-Decides b a).0 k))))

not_empty : (entries : List IosEntry) (entry : IosEntry) → not (is_empty (entries ++ entry ∷ [])) ≡ true
not_empty [] entry = refl
not_empty (other ∷ entries) entry = refl

module _ (name : List ℕ) (entry : IosEntry) where
  longer_fits : (l : IosList) → entry_fits entry ≡ true → list_fits l ≡ true → list_fits (with_last entry l) ≡ true
  longer_fits l e h =
      and_from (not (is_empty (l.entries ++ entry ∷ []))) (list_all entry_fits (l.entries ++ entry ∷ [])) (not_empty l.entries entry)
      (all_longer entry_fits l.entries entry (and_parts (not (is_empty l.entries)) (list_all entry_fits l.entries) h).1 e)

  pub all_fit : entry_fits entry ≡ true → (ls : List IosList) → list_all list_fits ls ≡ true → list_all list_fits (with_entry name entry ls) ≡ true
  all_fit e [] h = and_from (entry_fits entry && true) true (and_from (entry_fits entry) true e refl) refl
  all_fit e (l ∷ ls) h =
      let both = and_parts (list_fits l) (list_all list_fits ls) h in
      cond_both (bytes_eq l.name name) (with_last entry l ∷ ls) (l ∷ with_entry name entry ls) (λ xs. list_all list_fits xs ≡ true)
      (λ k. and_from (list_fits (with_last entry l)) (list_all list_fits ls) (longer_fits l e both.0) both.1)
      (λ k. and_from (list_fits l) (list_all list_fits (with_entry name entry ls)) both.0 (all_fit e ls both.1))

  -- a name that no list had, and that isn't the entry's list's, no list has then
  still_new : (other : List ℕ) → bytes_eq name other ≡ false → (ls : List IosList) → list_any (λ each. bytes_eq each.name other) ls ≡ false
      → list_any (λ each. bytes_eq each.name other) (with_entry name entry ls) ≡ false
  still_new other e [] h = or_from (bytes_eq name other) false e refl
  still_new other e (l ∷ ls) h =
      let test : IosList → Bool = λ each. bytes_eq each.name other in
      let parts = or_parts (test l) (list_any test ls) h in
      cond_both (bytes_eq l.name name) (with_last entry l ∷ ls) (l ∷ with_entry name entry ls) (λ xs. list_any test xs ≡ false)
      (λ k. or_from (test l) (list_any test ls) parts.0 parts.1)
      (λ k. or_from (test l) (list_any test (with_entry name entry ls)) parts.0 (still_new other e ls parts.1))

  pub still_apart : (ls : List IosList) → are_apart ls ≡ true → are_apart (with_entry name entry ls) ≡ true
  still_apart [] h = refl
  still_apart (l ∷ ls) h =
      let has_name : List IosList → Bool = λ xs. list_any (λ each. bytes_eq each.name l.name) xs in
      let both = and_parts (not (has_name ls)) (are_apart ls) h in
      cond_both (bytes_eq l.name name) (with_last entry l ∷ ls) (l ∷ with_entry name entry ls) (λ xs. are_apart xs ≡ true)
      (λ k. and_from (not (has_name ls)) (are_apart ls) both.0 both.1)
      (λ k. and_from (not (has_name (with_entry name entry ls))) (are_apart (with_entry name entry ls))
      (not_from_false (has_name (with_entry name entry ls)) (still_new l.name (other_ways l.name name k) ls (not-true (has_name ls) both.0)))
      (still_apart ls both.1))
