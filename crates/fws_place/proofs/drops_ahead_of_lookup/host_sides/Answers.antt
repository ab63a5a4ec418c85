use Rattle.std.proofs.Common.{◌∙◌, ap}
use Rattle.fws_box.specs.Sides.{whole_sides}
use Rattle.fws_place.proofs.Regions.{hosting}
use Rattle.fws_place.proofs.drops_ahead_of_lookup.host_sides.Goals as goal

pub returns : goal.returns
returns c = hosting c.args.site.now c.in_ok-sides.sides c.in_ok-sides-2.field-0 (c.in_ok-sides.ensures ∙ ap whole_sides c.tops-tops.ensures) c.in_ok-sides-2.ensures
