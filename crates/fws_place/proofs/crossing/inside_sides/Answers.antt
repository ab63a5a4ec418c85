use Rattle.std.proofs.Common.{◌∙◌, ap}
use Rattle.fws_box.specs.Sides.{whole_sides}
use Rattle.fws_place.proofs.Regions.{from_inside}
use Rattle.fws_place.proofs.crossing.inside_sides.Goals as goal

pub returns : goal.returns
returns c = from_inside c.args.site.now c.in_ok-sides.sides c.in_ok-sides-2.field-0 (c.in_ok-sides.ensures ∙ ap whole_sides c.tops-tops.ensures) c.in_ok-sides-2.ensures
