-- Labels by places, and how many there are.
use Rattle.std.proofs.Common.{◌≡◌, ℕ, ◌+◌, List, [], ◌++◌, length, codes, ◌∙◌, ap}
use Rattle.std.proofs.lemmas.List.FromFn.{length-map-range_with_len}
use Rattle.std.proofs.lemmas.List.{length-append}
use Rattle.fws_print.specs.Labels.{place_label, place_labels}
use Rattle.fws_pf_print.specs.Labels.{LabelsAreCounted}

-- there are as many labels as places
pub places_counted : (front : List ℕ) (n : ℕ) → length (place_labels front n) ≡ n
places_counted front n = length-map-range_with_len (place_label front) 1 n

pub labels_counted : LabelsAreCounted
labels_counted c =
    let rdr : List (List ℕ) = place_labels (codes "rdr") (length c.rdr) in
    let nat : List (List ℕ) = place_labels (codes "nat") (length c.nat) in
    let filter : List (List ℕ) = place_labels (codes "filter") (length c.filter) in
    length-append (rdr ++ nat) filter ∙ ap (λ (n : ℕ). n + length filter) (length-append rdr nat)
    ∙ ap (λ (n : ℕ). n + length nat + length filter) (places_counted (codes "rdr") (length c.rdr))
    ∙ ap (λ (n : ℕ). length c.rdr + n + length filter) (places_counted (codes "nat") (length c.nat))
    ∙ ap (λ (n : ℕ). length c.rdr + length c.nat + n) (places_counted (codes "filter") (length c.filter))
