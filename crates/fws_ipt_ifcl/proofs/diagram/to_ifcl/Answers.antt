use Rattle.std.proofs.Common.{◌≡◌, true, sym, subst}
use Rattle.fws_ifcl.specs.Soundness.{ifcl_ok}
use Rattle.fws_ipt.specs.Soundness.{is_fitting}
use Rattle.fws_ipt_ifcl.specs.declared.side.SideTest.TheVariants.{First}
use Rattle.fws_ipt_ifcl.specs.Kept.{KeepsWalks, KeepsChains, KeepsStages, KeepsRefusals}
use Rattle.fws_ipt_ifcl.proofs.Keeping.{keeps_walks, keeps_chains, keeps_stages}
use Rattle.fws_ipt_ifcl.proofs.Named.{diagram_ok}
use Rattle.fws_ipt_ifcl.proofs.Turned.{refusals_kept}
use Rattle.fws_ipt_ifcl.proofs.diagram.to_ifcl.Goals as goal

pub returns-clause-ok : goal.returns-clause-ok
returns-clause-ok c =
    let f = c.args.c.now in
    let site = c.args.site.now in
    subst (λ d. is_fitting f ≡ true → ifcl_ok d ≡ true) (sym c.in_ok-d.ensures) (diagram_ok c.rules_are_right_by_parts.ensures First site f)

pub returns-clause-means : goal.returns-clause-means
returns-clause-means c =
    let f = c.args.c.now in
    let site = c.args.site.now in
    subst (λ d. KeepsWalks d site f) (sym c.in_ok-d.ensures)
    (keeps_walks First site c.requires c.routes_are_entries.ensures f)

pub returns-clause-chains : goal.returns-clause-chains
returns-clause-chains c =
    let f = c.args.c.now in
    let site = c.args.site.now in
    subst (λ d. KeepsChains d site f) (sym c.in_ok-d.ensures) (keeps_chains First site f)

pub returns-clause-stages : goal.returns-clause-stages
returns-clause-stages c =
    let f = c.args.c.now in
    let site = c.args.site.now in
    subst (λ d. KeepsStages d f) (sym c.in_ok-d.ensures) (keeps_stages First site f)

pub returns-clause-refused : goal.returns-clause-refused
returns-clause-refused c =
    let f = c.args.c.now in
    let site = c.args.site.now in
    subst (λ d. KeepsRefusals d site f) (sym c.in_ok-d.ensures) (refusals_kept c.loops_are_found.ensures c.sizes_stand_still.ensures First site f)
