-- Labels by places.
use Rattle.std.proofs.Common.{◌≡◌, ℕ, ◌+◌, List, [], ◌∷◌, ◌++◌, arith, sym, ◌∙◌, ap, append_assoc}
use Rattle.std.proofs.lemmas.List.FromFn.{map-range_with_len_more}
use Rattle.fws_print.specs.Labels.{place_label, place_labels}

-- one more place
pub places_more : (front : List ℕ) (n : ℕ) (old so_far new : List (List ℕ)) (label : List ℕ) → new ≡ so_far ++ label ∷ [] → label ≡ place_label front (n + 1)
    → so_far ≡ old ++ place_labels front n → new ≡ old ++ place_labels front (n + 1)
places_more front n old so_far new label put is begun =
    put ∙ ap (λ (l : List ℕ). so_far ++ l ∷ []) is ∙ ap (λ (ls : List (List ℕ)). ls ++ place_label front (n + 1) ∷ []) begun
    ∙ append_assoc old (place_labels front n) (place_label front (n + 1) ∷ [])
    ∙ ap (λ (ls : List (List ℕ)). old ++ ls) (sym (map-range_with_len_more (place_label front) 1 n (n + 1) (omega arith)))
