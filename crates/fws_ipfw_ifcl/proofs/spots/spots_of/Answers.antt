use Rattle.std.proofs.Common.{false, ◌++◌, ap, ◌∙◌}
use Rattle.fws_ifcl_rules.specs.UsedPlaces.{spots_from}
use Rattle.fws_ipfw_ifcl.specs.Diagram.{second_place}
use Rattle.fws_ipfw_ifcl.specs.Placed.{half_told}
use Rattle.fws_ipfw_ifcl.proofs.Beside.{all_spots}
use Rattle.fws_ipfw_ifcl.proofs.spots.spots_of.Goals as goal

pub returns : goal.returns
returns c =
    let f = c.args.c.now in
    let none = c.new-spots.result.items in
    all_spots c.uses_are_told_by_places.ensures c.args.site.now f c.in_ok-layout.layout.begin none c.put_half_spots.new.spots.items c.put_second_spots.new.spots.items
    (c.in_ok-layout.ensures.begin ∙ ap second_place c.requires.drawn) c.new-spots.ensures.items
    (c.in_ok-put_half_spots.ensures
    ∙ ap (λ nats. none ++ spots_from 0 0 (half_told nats false 0 c.as_slice.result.now)) c.as_slice-nats.ensures
    ∙ ap (λ rs. none ++ spots_from 0 0 (half_told f.nats false 0 rs)) c.as_slice.ensures)
    c.in_ok-put_second_spots.ensures
