use Rattle.std.proofs.Common.{◌≡◌, ◌+◌, ◌<◌, ◌∷◌, ◌++◌, length, drop, sym, ap, ◌∙◌}
use Rattle.std.proofs.lemmas.List.{at_drop_more}
use Rattle.fws_ifcl_rules.specs.UsedPlaces.{spots_from}
use Rattle.fws_ipt.specs.Refusals.{width_of}
use Rattle.fws_ipt_ifcl.specs.declared.side.SideTest.TheVariants.{Each}
use Rattle.fws_ipt_ifcl.specs.Placed.{rules_told}
use Rattle.fws_ipt_ifcl.proofs.Counted.{rule_put}
use Rattle.fws_ipt_ifcl.proofs.Widths.{unfolded_width}
use Rattle.fws_ipt_ifcl.proofs.spots.put_rule_spots.Goals as goal

pub loop-rule-preserved : goal.loop-rule-preserved
loop-rule-preserved c on_source =
    let site = c.args.site.now in
    let chain = c.args.chain in
    let rules = c.args.rules.now in
    let i = c.loop-rule.rule-index in
    let r = c.rule-item.result in
    let a = c.loop-rule.spots.items in
    let at = c.loop-rule.at in
    let n = c.loop-rule.n in
    let rest = drop (i + 1) rules in
    let wide : c.in_ok-width_of.field-0 ≡ width_of (length site.faces) r.go = c.in_ok-width_of.ensures ∙ ap (λ f. width_of f r.go) c.len.ensures in
    let far : c.in_ok-behind.behind ≡ at + width_of (length site.faces) r.go = c.in_ok-behind.ensures ∙ ap (λ w. at + w) wide in
    let within : i < length rules = c.loop-rule-test.true in
    rule_put c.uses_are_told_by_places.ensures site on_source chain at c.in_ok-behind.behind c.in_ok-n.n n a c.put_spot.new.spots.items r rest far c.in_ok-n.ensures
    c.in_ok-put_spot.ensures (unfolded_width Each site on_source at r.cond r.go)
    ∙ ap (λ x. a ++ spots_from chain at (rules_told site on_source at n (x ∷ rest))) c.rule-item.is
    ∙ sym (at_drop_more (λ rs. a ++ spots_from chain at (rules_told site on_source at n rs)) rules i r within)
    ∙ c.loop-rule.invariant on_source
