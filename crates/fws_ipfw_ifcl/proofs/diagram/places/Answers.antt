use Rattle.std.proofs.Common.{◌≡◌, true, None, length, sym, ap, ◌∙◌, subst}
use Rattle.fws_net.specs.declared.connection.Kind.{Kind}
use Rattle.fws_net.specs.declared.packet.Packet.{Packet}
use Rattle.fws_ifcl.specs.Refusals.{refusal_of}
use Rattle.fws_ifcl.specs.Soundness.{ifcl_ok}
use Rattle.fws_ifcl.specs.Spots.{are_spots_of, told}
use Rattle.fws_ifcl.specs.Uses.{used_places}
use Rattle.fws_ifcl.specs.Walk.{means}
use Rattle.fws_ifcl_rules.specs.Straight.{is_straight}
use Rattle.fws_ipfw.specs.Walk.{walk}
use Rattle.fws_ipfw_ifcl.specs.Diagram.{diagram_of}
use Rattle.fws_ipfw_ifcl.specs.Fitting.{IsDrawable}
use Rattle.fws_ipfw_ifcl.specs.Placed.{with_counts, placed_of}
use Rattle.fws_ipfw_ifcl.proofs.Beside.{spots_right}
use Rattle.fws_ipfw_ifcl.proofs.Counting.{counted_pass, counts_drawable}
use Rattle.fws_ipfw_ifcl.proofs.Numbered.{diagram_ok, diagram_straight}
use Rattle.fws_ipfw_ifcl.proofs.Passing.{means_kept}
use Rattle.fws_ipfw_ifcl.proofs.PassingTold.{uses_kept}
use Rattle.fws_ipfw_ifcl.proofs.diagram.places.Goals as goal

pub drawn-requires : goal.drawn-requires
drawn-requires c = subst IsDrawable (sym c.in_ok-counted.ensures) (counts_drawable c.args.c.now c.requires)

pub returns-clause-ok : goal.returns-clause-ok
returns-clause-ok c =
    let site = c.args.site.now in
    let f = c.args.c.now in
    subst (λ d. ifcl_ok d ≡ true) (sym (c.in_ok-d.ensures ∙ ap (diagram_of site) c.in_ok-counted.ensures))
    (diagram_ok c.rules_are_right_by_parts.ensures site (with_counts f))

pub returns-clause-means : goal.returns-clause-means
returns-clause-means c =
    let site = c.args.site.now in
    let f = c.args.c.now in
    subst (λ d. (p : Packet) (k : Kind) → means d site p k ≡ walk f site p k) (sym (c.in_ok-d.ensures ∙ ap (diagram_of site) c.in_ok-counted.ensures))
    (λ p k. means_kept c.walks_go_by_places.ensures site (with_counts f) f c.requires.fitting p k (counted_pass f site p k))

pub returns-clause-straight : goal.returns-clause-straight
returns-clause-straight c =
    let site = c.args.site.now in
    let f = c.args.c.now in
    subst (λ d. is_straight d ≡ true) (sym (c.in_ok-d.ensures ∙ ap (diagram_of site) c.in_ok-counted.ensures))
    (diagram_straight c.rules_are_right_by_parts.ensures site (with_counts f))

pub returns-clause-unfolds : goal.returns-clause-unfolds
returns-clause-unfolds c =
    let site = c.args.site.now in
    let f = c.args.c.now in
    subst (λ d. refusal_of d ≡ None) (sym (c.in_ok-d.ensures ∙ ap (diagram_of site) c.in_ok-counted.ensures))
    (c.straight_diagrams_unfold.ensures (placed_of site f) (diagram_straight c.rules_are_right_by_parts.ensures site (with_counts f)))

pub returns-clause-spots : goal.returns-clause-spots
returns-clause-spots c =
    let site = c.args.site.now in
    let f = c.args.c.now in
    subst (λ d. are_spots_of d (length f.rules) c.in_ok-spots.spots.items ≡ true) (sym (c.in_ok-d.ensures ∙ ap (diagram_of site) c.in_ok-counted.ensures))
    (ap (are_spots_of (placed_of site f) (length f.rules)) c.in_ok-spots.ensures ∙ spots_right c.uses_are_told_by_places.ensures site f)

pub returns-clause-uses : goal.returns-clause-uses
returns-clause-uses c p k =
    let site = c.args.site.now in
    let f = c.args.c.now in
    ap (λ d. told c.in_ok-spots.spots.items (used_places d site p k)) (c.in_ok-d.ensures ∙ ap (diagram_of site) c.in_ok-counted.ensures)
    ∙ ap (λ spots. told spots (used_places (placed_of site f) site p k)) c.in_ok-spots.ensures
    ∙ uses_kept c.uses_are_told_by_places.ensures c.walks_go_by_places.ensures site f c.requires.fitting p k
