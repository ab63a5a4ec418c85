-- The diagram of a pf configuration in which all filter rules stand in their order, and where each rule of the configuration stands in it: at
-- the first of those to which it is unfolded. The walk comes to that one as pf's walk comes to the rule.
use Rattle.std.specs.Prelude.{ℕ, suc, ◌+◌, Bool, true, false, None, List, [], ◌∷◌, ◌++◌, length}
use Rattle.fws_ifcl.specs.declared.diagram.Ifcl.{Ifcl}
use Rattle.fws_ifcl.specs.declared.diagram.Spot.{Spot}
use Rattle.fws_ifcl_rules.specs.UsedPlaces.{untold, first_told, chain_spots}
use Rattle.fws_pf.specs.declared.config.PfConfig.{PfConfig}
use Rattle.fws_pf.specs.declared.config.PfNat.{PfNat}
use Rattle.fws_pf.specs.declared.config.PfRule.{PfRule}
use Rattle.fws_pf.specs.Uses.{first_translation, first_filter_rule}
use Rattle.fws_pf.specs.Walk.{translations}
use Rattle.fws_pf_ifcl.specs.Blocks.{translation, translation_width, met_rule}
use Rattle.fws_pf_ifcl.specs.Diagram.{tracking, skipping, translations_place, filter_place, drawn_of}

abbrev pub placed_of : PfConfig → Ifcl
placed_of c = drawn_of None c

-- how many rules a configuration has
abbrev pub rule_count : PfConfig → ℕ
rule_count c = first_filter_rule c + length c.filter

-- the numbers of translations beside their rules, of which the first has the place at; the first translation is counted n
abbrev pub translations_told : Bool → ℕ → ℕ → ℕ → List PfNat → List (List ℕ)
translations_told outward filter at n [] = []
translations_told outward filter at n (nat ∷ nats) =
    first_told n (translation outward filter at nat) ++ translations_told outward filter (at + translation_width outward nat) (suc n) nats

-- those of filter rules likewise
abbrev pub filter_told : Bool → ℕ → ℕ → List PfRule → List (List ℕ)
filter_told outward at n [] = []
filter_told outward at n (r ∷ rs) = first_told n (met_rule outward at r) ++ filter_told outward (at + length (met_rule outward at r)) (suc n) rs

-- all numbers beside the rules of a pass
abbrev pub pass_told : Bool → PfConfig → List (List ℕ)
pass_told outward c =
    untold (tracking outward ++ skipping c)
    ++ translations_told outward (filter_place outward c) (translations_place outward) (first_translation c outward) (translations c outward)
    ++ filter_told outward (filter_place outward c) (first_filter_rule c) c.filter

-- where the rules of the configuration stand
abbrev pub spots_of : PfConfig → List Spot
spots_of c = chain_spots 0 (pass_told false c ∷ pass_told true c ∷ [])
