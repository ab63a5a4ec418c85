-- What is known where parts are executed.
use Rattle.std.specs.Prelude.{◌≡◌}
use Rattle.fws_box.specs.Boxes.{sides_of}
use Rattle.fws_box.specs.Sides.{whole_sides}
use Rattle.fws_net.specs.Points.{tops_of}
use Rattle.fws_net.specs.Routes.{IsSound}
use Rattle.fws_box_conditions.specs.Areas.{IsOfSite}
use Rattle.fws_box_conditions.specs.Ways.{AreWaysOf}
use Rattle.fws_exec.specs.declared.errand.Ground.{Ground}

-- the site is sound, the ways are its own, and the area is that of all its points
pub record IsGround (g : Ground) : Type 0 where
  pub sound : IsSound g.site.now
  pub ways : AreWaysOf g.site.now g.ways.now
  pub within : IsOfSite g.site.now (sides_of g.area)
  pub whole : sides_of g.area ≡ whole_sides (tops_of g.site.now)
