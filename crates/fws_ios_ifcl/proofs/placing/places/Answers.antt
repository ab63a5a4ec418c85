use Rattle.std.proofs.Common.{◌≡◌, List, [], ◌++◌, true, None, sym, subst, ◌∙◌, ap}
use Rattle.fws_net.specs.declared.connection.Kind.{Kind}
use Rattle.fws_net.specs.declared.packet.Packet.{Packet}
use Rattle.fws_ifcl.specs.declared.diagram.Ifcl.{Ifcl}
use Rattle.fws_ifcl.specs.declared.diagram.Spot.{Spot}
use Rattle.fws_ifcl.specs.Refusals.{refusal_of}
use Rattle.fws_ifcl.specs.Soundness.{ifcl_ok}
use Rattle.fws_ifcl.specs.Spots.{are_spots_of, told}
use Rattle.fws_ifcl.specs.Uses.{used_places}
use Rattle.fws_ifcl.specs.Walk.{means}
use Rattle.fws_ifcl_rules.specs.Straight.{is_straight}
use Rattle.fws_ios.specs.Uses.{used}
use Rattle.fws_ios.specs.Walk.{walk}
use Rattle.fws_ios_ifcl.specs.Placed.{count_of, placed_of, spots_of}
use Rattle.fws_ios_ifcl.proofs.Asked.{placed_keeps_walks}
use Rattle.fws_ios_ifcl.proofs.Beside.{spots_right}
use Rattle.fws_ios_ifcl.proofs.Numbered.{placed_ok, placed_straight}
use Rattle.fws_ios_ifcl.proofs.PassingTold.{tells_uses}
use Rattle.fws_ios_ifcl.proofs.placing.places.Goals as goal

-- what holds of the diagram and of the spots holds of both as they are made
as_made : (P : Ifcl → List Spot → Type 0) (d e : Ifcl) (spots none told : List Spot) → d ≡ e → spots ≡ none ++ told → none ≡ [] → P e told → P d spots
as_made P d e spots none told first second nothing is =
    let all : spots ≡ told = second ∙ ap (λ l. l ++ told) nothing in
    subst (λ x. P x spots) (sym first) (subst (λ x. P e x) (sym all) is)

pub returns-clause-ok : goal.returns-clause-ok
returns-clause-ok c = subst (λ d. ifcl_ok d ≡ true) (sym c.in_ok-d.ensures.diagram) (placed_ok c.rules_are_right_by_parts.ensures c.args.c.now)

pub returns-clause-means : goal.returns-clause-means
returns-clause-means c =
    let f = c.args.c.now in
    let site = c.args.site.now in
    subst (λ d. (p : Packet) (k : Kind) → means d site p k ≡ walk f site p k) (sym c.in_ok-d.ensures.diagram)
    (placed_keeps_walks c.walks_go_by_places.ensures site f)

pub returns-clause-straight : goal.returns-clause-straight
returns-clause-straight c =
    subst (λ d. is_straight d ≡ true) (sym c.in_ok-d.ensures.diagram) (placed_straight c.rules_are_right_by_parts.ensures c.args.c.now)

pub returns-clause-unfolds : goal.returns-clause-unfolds
returns-clause-unfolds c =
    let f = c.args.c.now in
    subst (λ d. refusal_of d ≡ None) (sym c.in_ok-d.ensures.diagram)
    (c.straight_diagrams_unfold.ensures (placed_of f) (placed_straight c.rules_are_right_by_parts.ensures f))

pub returns-clause-spots : goal.returns-clause-spots
returns-clause-spots c =
    let f = c.args.c.now in
    as_made (λ d spots. are_spots_of d (count_of f) spots ≡ true) _ (placed_of f) _ _ (spots_of f) c.in_ok-d.ensures.diagram c.in_ok-d.ensures.spots
    c.new-spots.ensures.items
    (spots_right c.uses_are_told_by_places.ensures f)

pub returns-clause-uses : goal.returns-clause-uses
returns-clause-uses c =
    let f = c.args.c.now in
    let site = c.args.site.now in
    as_made (λ d spots. (p : Packet) (k : Kind) → told spots (used_places d site p k) ≡ used f site p k) _ (placed_of f) _ _ (spots_of f)
    c.in_ok-d.ensures.diagram c.in_ok-d.ensures.spots c.new-spots.ensures.items
    (tells_uses c.walks_go_by_places.ensures c.uses_are_told_by_places.ensures site f)
