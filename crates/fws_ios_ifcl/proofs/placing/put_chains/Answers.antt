use Rattle.std.proofs.Common.{ℕ, true, false, List, [], ◌∷◌, ◌++◌, codes, ap, ◌∙◌}
use Rattle.fws_ifcl.specs.declared.diagram.Chain.{Chain}
use Rattle.fws_ifcl.specs.declared.diagram.Rule.{Rule}
use Rattle.fws_ios_ifcl.specs.Diagram.{destination_rules, list_rules}
use Rattle.fws_ios_ifcl.specs.Placed.{destination_spots, list_spots, placed_sources, source_spots}
use Rattle.fws_ios_ifcl.proofs.Joined.{four, four_lists}
use Rattle.fws_ios_ifcl.proofs.placing.put_chains.Goals as goal

pub returns-clause-chains : goal.returns-clause-chains
returns-clause-chains c =
    let f = c.args.c.now in
    let named : List ℕ → List Rule → Chain = λ name rules. record { name = name; rules = rules } in
    four c.args.chains.now c.put_chain.new.chains c.put_chain-2.new.chains c.put_chain-3.new.chains _
    (named (codes "in") (list_rules false f)) (named (codes "destination") (destination_rules f)) (named (codes "source") (placed_sources f)) (named (codes "out") (list_rules true f))
    (c.in_ok-put_chain.ensures ∙ ap (λ rs. c.args.chains.now ++ named (codes "in") rs ∷ []) c.in_ok-inward.ensures.rules)
    (c.in_ok-put_chain-2.ensures ∙ ap (λ rs. c.put_chain.new.chains ++ named (codes "destination") rs ∷ []) c.in_ok-destinations.ensures.rules)
    (c.in_ok-put_chain-3.ensures ∙ ap (λ rs. c.put_chain-2.new.chains ++ named (codes "source") rs ∷ []) c.in_ok-sources.ensures.rules)
    (c.in_ok-put_chain-4.ensures ∙ ap (λ rs. c.put_chain-3.new.chains ++ named (codes "out") rs ∷ []) c.in_ok-outward.ensures.rules)

pub returns-clause-spots : goal.returns-clause-spots
returns-clause-spots c =
    let f = c.args.c.now in
    four_lists c.args.spots.now.items c.placed_lists.new.spots.items c.placed_destinations.new.spots.items c.placed_sources.new.spots.items _
    (list_spots 0 false f) (destination_spots f) (source_spots f) (list_spots 3 true f)
    c.in_ok-inward.ensures.spots c.in_ok-destinations.ensures.spots c.in_ok-sources.ensures.spots c.in_ok-outward.ensures.spots
