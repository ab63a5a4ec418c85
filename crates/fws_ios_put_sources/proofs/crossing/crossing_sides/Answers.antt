use Rattle.std.proofs.Common.{ap, ◌∙◌}
use Rattle.fws_box.specs.Sides.{whole_sides}
use Rattle.fws_ios_put_sources.proofs.Boxes.{crossing_box}
use Rattle.fws_ios_put_sources.proofs.crossing.crossing_sides.Goals as goal

pub returns : goal.returns
returns c =
    crossing_box c.args.site.now c.in_ok-sides.sides c.in_ok-sides-2.field-0 c.in_ok-sides-3.field-0 (c.in_ok-sides.ensures ∙ ap whole_sides c.tops-tops.ensures)
    c.in_ok-sides-2.ensures c.in_ok-sides-3.ensures
