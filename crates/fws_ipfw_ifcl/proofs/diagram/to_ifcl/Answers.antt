use Rattle.std.proofs.Common.{◌≡◌, true, None, sym, subst}
use Rattle.fws_net.specs.declared.connection.Kind.{Kind}
use Rattle.fws_net.specs.declared.packet.Packet.{Packet}
use Rattle.fws_ifcl.specs.Refusals.{refusal_of}
use Rattle.fws_ifcl.specs.Soundness.{ifcl_ok}
use Rattle.fws_ifcl.specs.Walk.{means}
use Rattle.fws_ifcl_rules.specs.Straight.{is_straight}
use Rattle.fws_ipfw.specs.Walk.{walk}
use Rattle.fws_ipfw_ifcl.specs.Diagram.{diagram_of}
use Rattle.fws_ipfw_ifcl.proofs.Numbered.{diagram_ok, diagram_straight}
use Rattle.fws_ipfw_ifcl.proofs.Passing.{keeps_walks}
use Rattle.fws_ipfw_ifcl.proofs.diagram.to_ifcl.Goals as goal

pub returns-clause-ok : goal.returns-clause-ok
returns-clause-ok c = subst (λ d. ifcl_ok d ≡ true) (sym c.in_ok-d.ensures) (diagram_ok c.rules_are_right_by_parts.ensures c.args.site.now c.args.c.now)

pub returns-clause-means : goal.returns-clause-means
returns-clause-means c =
    let f = c.args.c.now in
    let site = c.args.site.now in
    subst (λ d. (p : Packet) (k : Kind) → means d site p k ≡ walk f site p k) (sym c.in_ok-d.ensures)
    (keeps_walks c.walks_go_by_places.ensures site f c.requires)

pub returns-clause-straight : goal.returns-clause-straight
returns-clause-straight c =
    subst (λ d. is_straight d ≡ true) (sym c.in_ok-d.ensures)
    (diagram_straight c.rules_are_right_by_parts.ensures c.args.site.now c.args.c.now)

pub returns-clause-unfolds : goal.returns-clause-unfolds
returns-clause-unfolds c =
    let f = c.args.c.now in
    let site = c.args.site.now in
    subst (λ d. refusal_of d ≡ None) (sym c.in_ok-d.ensures)
    (c.straight_diagrams_unfold.ensures (diagram_of site f) (diagram_straight c.rules_are_right_by_parts.ensures site f))
