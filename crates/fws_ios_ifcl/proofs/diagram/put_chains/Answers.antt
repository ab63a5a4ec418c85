use Rattle.std.proofs.Common.{ℕ, true, false, List, [], ◌∷◌, ◌++◌, codes, ap, ◌∙◌}
use Rattle.fws_ifcl.specs.declared.diagram.Chain.{Chain}
use Rattle.fws_ifcl.specs.declared.diagram.Rule.{Rule}
use Rattle.fws_ios_ifcl.specs.Diagram.{destination_rules, list_rules, source_rules}
use Rattle.fws_ios_ifcl.proofs.Joined.{four}
use Rattle.fws_ios_ifcl.proofs.diagram.put_chains.Goals as goal

pub returns : goal.returns
returns c =
    let f = c.args.c.now in
    let named : List ℕ → List Rule → Chain = λ name rules. record { name = name; rules = rules } in
    four c.args.chains.now c.put_chain.new.chains c.put_chain-2.new.chains c.put_chain-3.new.chains _
    (named (codes "in") (list_rules false f)) (named (codes "destination") (destination_rules f)) (named (codes "source") (source_rules f)) (named (codes "out") (list_rules true f))
    (c.in_ok-put_chain.ensures ∙ ap (λ rs. c.args.chains.now ++ named (codes "in") rs ∷ []) c.in_ok-list_rules.ensures)
    (c.in_ok-put_chain-2.ensures ∙ ap (λ rs. c.put_chain.new.chains ++ named (codes "destination") rs ∷ []) c.in_ok-destination_rules.ensures)
    (c.in_ok-put_chain-3.ensures ∙ ap (λ rs. c.put_chain-2.new.chains ++ named (codes "source") rs ∷ []) c.in_ok-source_rules.ensures)
    (c.in_ok-put_chain-4.ensures ∙ ap (λ rs. c.put_chain-3.new.chains ++ named (codes "out") rs ∷ []) c.in_ok-list_rules-2.ensures)
