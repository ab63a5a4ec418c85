-- Labels by places, and how many there are.
use Rattle.std.proofs.Common.{◌≡◌, ℕ, ◌+◌, List, [], ◌∷◌, length, refl, sym, ◌∙◌, ap}
use Rattle.std.proofs.lemmas.List.FromFn.{length-map-range_with_len}
use Rattle.std.proofs.lemmas.List.Concat.{length-flat_map}
use Rattle.std.proofs.lemmas.List.Sums.{sum-map, sum_by-cons}
use Rattle.std.specs.List.{sum_by}
use Rattle.fws_ipt.specs.declared.config.IptChain.{IptChain}
use Rattle.fws_print.specs.Labels.{place_label, place_labels}
use Rattle.fws_ipt_print.specs.Labels.{LabelsAreCounted, chain_front, chain_labels}

-- there are as many labels as places
pub places_counted : (front : List ℕ) (n : ℕ) → length (place_labels front n) ≡ n
places_counted front n = length-map-range_with_len (place_label front) 1 n

-- the labels of a chain, and its rules
abbrev labels_in : IptChain → ℕ
labels_in chain = length (chain_labels chain)

abbrev rules_in : IptChain → ℕ
rules_in chain = length chain.rules

chains_counted : (chains : List IptChain) → sum_by labels_in chains ≡ sum_by rules_in chains
chains_counted [] = refl
chains_counted (chain ∷ chains) =
    sum_by-cons labels_in chain chains ∙ ap (λ (n : ℕ). n + sum_by labels_in chains) (places_counted (chain_front chain) (length chain.rules))
    ∙ ap (λ (n : ℕ). rules_in chain + n) (chains_counted chains) ∙ sym (sum_by-cons rules_in chain chains)

pub labels_counted : LabelsAreCounted
labels_counted c = length-flat_map chain_labels c.chains ∙ chains_counted c.chains ∙ sym (sum-map rules_in c.chains)
