use Rattle.std.proofs.Common.{◌≡◌, true, sym, ap, ◌∙◌, subst}
use Rattle.fws_ifcl.specs.Soundness.{ifcl_ok}
use Rattle.fws_ifcl.specs.Spots.{are_spots_of}
use Rattle.fws_ipt.specs.Soundness.{is_fitting}
use Rattle.fws_ipt_ifcl.specs.declared.side.SideTest.TheVariants.{Each}
use Rattle.fws_ipt_ifcl.specs.Kept.{KeepsWalks, KeepsChains, KeepsStages, KeepsRefusals, KeepsUses, rule_count}
use Rattle.fws_ipt_ifcl.specs.Placed.{placed_of}
use Rattle.fws_ipt_ifcl.proofs.Counted.{spots_right}
use Rattle.fws_ipt_ifcl.proofs.Keeping.{keeps_walks, keeps_chains, keeps_stages, keeps_uses}
use Rattle.fws_ipt_ifcl.proofs.Named.{diagram_ok}
use Rattle.fws_ipt_ifcl.proofs.Turned.{refusals_kept}
use Rattle.fws_ipt_ifcl.proofs.placing.places.Goals as goal

pub returns-clause-ok : goal.returns-clause-ok
returns-clause-ok c =
    let f = c.args.c.now in
    let site = c.args.site.now in
    subst (λ d. is_fitting f ≡ true → ifcl_ok d ≡ true) (sym c.in_ok-d.ensures) (diagram_ok c.rules_are_right_by_parts.ensures Each site f)

pub returns-clause-means : goal.returns-clause-means
returns-clause-means c =
    let f = c.args.c.now in
    let site = c.args.site.now in
    subst (λ d. KeepsWalks d site f) (sym c.in_ok-d.ensures) (keeps_walks Each site c.requires c.routes_are_entries.ensures f)

pub returns-clause-chains : goal.returns-clause-chains
returns-clause-chains c =
    let f = c.args.c.now in
    let site = c.args.site.now in
    subst (λ d. KeepsChains d site f) (sym c.in_ok-d.ensures) (keeps_chains Each site f)

pub returns-clause-stages : goal.returns-clause-stages
returns-clause-stages c =
    let f = c.args.c.now in
    let site = c.args.site.now in
    subst (λ d. KeepsStages d f) (sym c.in_ok-d.ensures) (keeps_stages Each site f)

pub returns-clause-refused : goal.returns-clause-refused
returns-clause-refused c =
    let f = c.args.c.now in
    let site = c.args.site.now in
    subst (λ d. KeepsRefusals d site f) (sym c.in_ok-d.ensures) (refusals_kept c.loops_are_found.ensures c.sizes_stand_still.ensures Each site f)

pub returns-clause-spots : goal.returns-clause-spots
returns-clause-spots c =
    let f = c.args.c.now in
    let site = c.args.site.now in
    subst (λ d. are_spots_of d (rule_count f) c.in_ok-spots.spots.items ≡ true) (sym c.in_ok-d.ensures)
    (ap (are_spots_of (placed_of site f) (rule_count f)) c.in_ok-spots.ensures ∙ spots_right c.uses_are_told_by_places.ensures site f)

pub returns-clause-uses : goal.returns-clause-uses
returns-clause-uses c =
    let f = c.args.c.now in
    let site = c.args.site.now in
    subst (λ d. KeepsUses d c.in_ok-spots.spots.items site f) (sym c.in_ok-d.ensures)
    (subst (λ spots. KeepsUses (placed_of site f) spots site f) (sym c.in_ok-spots.ensures)
    (keeps_uses c.uses_are_told_by_places.ensures site c.requires c.routes_are_entries.ensures f))
