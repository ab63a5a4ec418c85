-- The chains of a generated filter name no chains, so that they can be unfolded.
use Rattle.std.proofs.Common.{◌≡◌, ℕ, false, List, [], ◌∷◌, map, refl}
use Rattle.std.specs.List.{range_with_len}
use Rattle.fws_ipt.specs.Refusals.{all_named, names_any}
use Rattle.fws_load_laws.specs.LoadedFilters.{LoadConfigsAreNotRefused, filter_chain, load_rule}

-- no rule names a chain
none_named : (ks : List ℕ) → all_named (map load_rule ks) ≡ []
none_named [] = refl
none_named (k ∷ ks) = none_named ks

-- and so none is found that does
names_none : (ks : List ℕ) → names_any (filter_chain [] false (map load_rule ks)) ≡ false
names_none [] = refl
names_none (k ∷ ks) = names_none ks

pub not_refused : LoadConfigsAreNotRefused
not_refused site n =
    let ks : List ℕ = range_with_len 0 n in
    rw (none_named ks, names_none ks)
