use Rattle.std.proofs.Common.{◌≡◌, true, None, Some, sym, subst}
use Rattle.fws_net.specs.declared.connection.Kind.{Kind}
use Rattle.fws_net.specs.declared.packet.Packet.{Packet}
use Rattle.fws_ifcl.specs.Refusals.{refusal_of}
use Rattle.fws_ifcl.specs.Soundness.{ifcl_ok}
use Rattle.fws_ifcl.specs.Walk.{means}
use Rattle.fws_ifcl_rules.specs.Straight.{is_straight}
use Rattle.fws_pf.specs.Walk.{walk}
use Rattle.fws_pf_ifcl.specs.Diagram.{drawn_of}
use Rattle.fws_pf_ifcl.proofs.Numbered.{diagram_ok, diagram_straight}
use Rattle.fws_pf_ifcl.proofs.Passing.{keeps_walks}
use Rattle.fws_pf_ifcl.proofs.diagram.to_ifcl.Goals as goal

pub returns-clause-ok : goal.returns-clause-ok
returns-clause-ok c =
    let drawn = c.in_ok-d.ensures in
    subst (λ d. ifcl_ok d ≡ true) (sym drawn.are) (diagram_ok c.rules_are_right_by_parts.ensures (Some drawn.tails) c.args.c.now)

pub returns-clause-means : goal.returns-clause-means
returns-clause-means c =
    let f = c.args.c.now in
    let site = c.args.site.now in
    let drawn = c.in_ok-d.ensures in
    subst (λ d. (p : Packet) (k : Kind) → means d site p k ≡ walk f site p k) (sym drawn.are)
    (keeps_walks c.walks_go_by_places.ensures site (Some drawn.tails) f drawn.stand)

pub returns-clause-straight : goal.returns-clause-straight
returns-clause-straight c =
    let drawn = c.in_ok-d.ensures in
    subst (λ d. is_straight d ≡ true) (sym drawn.are) (diagram_straight c.rules_are_right_by_parts.ensures (Some drawn.tails) c.args.c.now)

pub returns-clause-unfolds : goal.returns-clause-unfolds
returns-clause-unfolds c =
    let f = c.args.c.now in
    let drawn = c.in_ok-d.ensures in
    subst (λ d. refusal_of d ≡ None) (sym drawn.are)
    (c.straight_diagrams_unfold.ensures (drawn_of (Some drawn.tails) f) (diagram_straight c.rules_are_right_by_parts.ensures (Some drawn.tails) f))
