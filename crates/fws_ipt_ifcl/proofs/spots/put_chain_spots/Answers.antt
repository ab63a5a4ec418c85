use Rattle.std.proofs.Common.{◌++◌, ap, ◌∙◌}
use Rattle.fws_ifcl_rules.specs.UsedPlaces.{spots_from}
use Rattle.fws_ipt.specs.Refusals.{head_width}
use Rattle.fws_ipt_ifcl.specs.Diagram.{is_on_source}
use Rattle.fws_ipt_ifcl.specs.Placed.{rules_told}
use Rattle.fws_ipt_ifcl.proofs.Counted.{chain_put}
use Rattle.fws_ipt_ifcl.proofs.spots.put_chain_spots.Goals as goal

pub returns : goal.returns
returns c =
    let site = c.args.site.now in
    let chain = c.args.chain.now in
    let at = c.args.at in
    let n = c.args.number in
    let old = c.args.spots.now.items in
    let on_source = is_on_source chain.name in
    let first = head_width chain.table chain.policy in
    chain_put c.uses_are_told_by_places.ensures site at n old c.put_rule_spots.new.spots.items chain
    (c.in_ok-put_rule_spots.ensures on_source
    ∙ ap (λ k. old ++ spots_from at k (rules_told site on_source k n c.as_slice.result.now)) c.head_width-first.ensures
    ∙ ap (λ rules. old ++ spots_from at first (rules_told site on_source first n rules)) c.as_slice.ensures)
