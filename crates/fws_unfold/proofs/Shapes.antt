-- The shapes of chains, chain by chain.
use Rattle.std.proofs.Common.{◌≡◌, ℕ, Option, Some, None, List, [], map, refl, sym, ap, ◌∙◌}
use Rattle.std.specs.Prelude.{slice_get, option_map}
use Rattle.std.specs.Option.{option_map_or}
use Rattle.std.proofs.lemmas.Option.{slice_get-map}
use Rattle.fws_ifcl.specs.declared.diagram.Chain.{Chain}
use Rattle.fws_ifcl.specs.Refusals.{all_named, named_in}
use Rattle.fws_unfold.specs.declared.calls.Shape.{Shape}
use Rattle.fws_unfold.specs.Calls.{shape_of}

-- what a found shape names
by_rules : (found : Option Chain) → option_map_or (λ (shape : Shape). shape.names) (option_map shape_of found) [] ≡ all_named (option_map_or (λ chain. chain.rules) found [])
by_rules None = refl
by_rules (Some chain) = refl

pub names_at : (chains : List Chain) (shapes : List Shape) (c : ℕ) → shapes ≡ map shape_of chains
    → option_map_or (λ (shape : Shape). shape.names) (slice_get shapes c) [] ≡ named_in chains c
names_at chains shapes c are =
    ap (λ (shapes : List Shape). option_map_or (λ (shape : Shape). shape.names) (slice_get shapes c) []) are
    ∙ ap (λ o. option_map_or (λ (shape : Shape). shape.names) o []) (slice_get-map shape_of chains c)
    ∙ by_rules (slice_get chains c)

pub named_past : (chains : List Chain) (shapes : List Shape) (c : ℕ) → shapes ≡ map shape_of chains → slice_get shapes c ≡ None → [] ≡ named_in chains c
named_past chains shapes c are none = ap (λ o. option_map_or (λ (shape : Shape). shape.names) o []) (sym none) ∙ names_at chains shapes c are

pub named_there : (chains : List Chain) (shapes : List Shape) (c : ℕ) (shape : Shape) → shapes ≡ map shape_of chains → slice_get shapes c ≡ Some shape → shape.names ≡ named_in chains c
named_there chains shapes c shape are some = ap (λ o. option_map_or (λ (shape : Shape). shape.names) o []) (sym some) ∙ names_at chains shapes c are
