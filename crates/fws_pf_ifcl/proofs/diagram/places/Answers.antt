use Rattle.std.proofs.Common.{◌≡◌, true, None, sym, ap, ◌∙◌, subst}
use Rattle.fws_net.specs.declared.connection.Kind.{Kind}
use Rattle.fws_net.specs.declared.packet.Packet.{Packet}
use Rattle.fws_ifcl.specs.Refusals.{refusal_of}
use Rattle.fws_ifcl.specs.Soundness.{ifcl_ok}
use Rattle.fws_ifcl.specs.Spots.{are_spots_of, told}
use Rattle.fws_ifcl.specs.Uses.{used_places}
use Rattle.fws_ifcl.specs.Walk.{means}
use Rattle.fws_ifcl_rules.specs.Straight.{is_straight}
use Rattle.fws_pf.specs.Walk.{walk}
use Rattle.fws_pf_ifcl.specs.Placed.{placed_of, rule_count}
use Rattle.fws_pf_ifcl.proofs.Counted.{spots_right}
use Rattle.fws_pf_ifcl.proofs.Numbered.{diagram_ok, diagram_straight}
use Rattle.fws_pf_ifcl.proofs.Passing.{keeps_walks}
use Rattle.fws_pf_ifcl.proofs.PassingTold.{uses_kept}
use Rattle.fws_pf_ifcl.proofs.diagram.places.Goals as goal

pub returns-clause-ok : goal.returns-clause-ok
returns-clause-ok c = subst (λ d. ifcl_ok d ≡ true) (sym c.in_ok-d.ensures.are) (diagram_ok c.rules_are_right_by_parts.ensures None c.args.c.now)

pub returns-clause-means : goal.returns-clause-means
returns-clause-means c =
    let f = c.args.c.now in
    let site = c.args.site.now in
    subst (λ d. (p : Packet) (k : Kind) → means d site p k ≡ walk f site p k) (sym c.in_ok-d.ensures.are) (keeps_walks c.walks_go_by_places.ensures site None f (λ outward. tt))

pub returns-clause-straight : goal.returns-clause-straight
returns-clause-straight c =
    subst (λ d. is_straight d ≡ true) (sym c.in_ok-d.ensures.are) (diagram_straight c.rules_are_right_by_parts.ensures None c.args.c.now)

pub returns-clause-unfolds : goal.returns-clause-unfolds
returns-clause-unfolds c =
    let f = c.args.c.now in
    subst (λ d. refusal_of d ≡ None) (sym c.in_ok-d.ensures.are)
    (c.straight_diagrams_unfold.ensures (placed_of f) (diagram_straight c.rules_are_right_by_parts.ensures None f))

pub returns-clause-spots : goal.returns-clause-spots
returns-clause-spots c =
    let f = c.args.c.now in
    subst (λ d. are_spots_of d (rule_count f) c.in_ok-spots.spots.items ≡ true) (sym c.in_ok-d.ensures.are)
    (ap (are_spots_of (placed_of f) (rule_count f)) c.in_ok-spots.ensures ∙ spots_right c.uses_are_told_by_places.ensures f)

pub returns-clause-uses : goal.returns-clause-uses
returns-clause-uses c p k =
    let f = c.args.c.now in
    let site = c.args.site.now in
    ap (λ d. told c.in_ok-spots.spots.items (used_places d site p k)) c.in_ok-d.ensures.are
    ∙ ap (λ spots. told spots (used_places (placed_of f) site p k)) c.in_ok-spots.ensures
    ∙ uses_kept c.uses_are_told_by_places.ensures c.walks_go_by_places.ensures site f p k
