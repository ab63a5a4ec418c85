-- Labels by places, and how many there are.
use Rattle.std.proofs.Common.{◌≡◌, ℕ, ◌+◌, List, [], ◌∷◌, length, map, sum, codes, refl, sym, ◌∙◌, ap}
use Rattle.std.proofs.lemmas.List.FromFn.{length-map-range_with_len}
use Rattle.std.proofs.lemmas.List.{length-append}
use Rattle.std.proofs.lemmas.List.Concat.{length-flat_map}
use Rattle.std.proofs.lemmas.List.Sums.{sum-map, sum_by-cons}
use Rattle.std.specs.List.{flat_map, sum_by}
use Rattle.fws_ios.specs.declared.config.IosList.{IosList}
use Rattle.fws_print.specs.Labels.{place_label, place_labels}
use Rattle.fws_ios_print.specs.Labels.{LabelsAreCounted, list_front, list_labels}

-- there are as many labels as places
pub places_counted : (front : List ℕ) (n : ℕ) → length (place_labels front n) ≡ n
places_counted front n = length-map-range_with_len (place_label front) 1 n

-- the labels of a list's entries, and these
abbrev labels_in : IosList → ℕ
labels_in l = length (list_labels l)

abbrev entries_in : IosList → ℕ
entries_in l = length l.entries

lists_counted : (lists : List IosList) → sum_by labels_in lists ≡ sum_by entries_in lists
lists_counted [] = refl
lists_counted (l ∷ lists) =
    sum_by-cons labels_in l lists ∙ ap (λ (n : ℕ). n + sum_by labels_in lists) (places_counted (list_front l) (length l.entries))
    ∙ ap (λ (n : ℕ). entries_in l + n) (lists_counted lists) ∙ sym (sum_by-cons entries_in l lists)

pub labels_counted : LabelsAreCounted
labels_counted c =
    length-append (flat_map list_labels c.lists) (place_labels (codes "nat") (length c.nats))
    ∙ ap (λ (n : ℕ). n + length (place_labels (codes "nat") (length c.nats))) (length-flat_map list_labels c.lists ∙ lists_counted c.lists ∙ sym (sum-map entries_in c.lists))
    ∙ ap (λ (n : ℕ). sum (map entries_in c.lists) + n) (places_counted (codes "nat") (length c.nats))
