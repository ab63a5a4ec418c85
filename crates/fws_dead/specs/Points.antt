-- The points that are searched.
use Rattle.std.specs.Prelude.{◌≡◌, ℕ, List, slice_set}
use Rattle.fws_net.specs.declared.packet.State.{State}
use Rattle.fws_net.specs.declared.packet.State.TheVariants.{Fresh, Est}
use Rattle.fws_net.specs.declared.site.Site.{Site}
use Rattle.fws_net.specs.Points.{tops_of}

-- the greatest values of the fields for packets of a kind: the last four of new ones, which stand for no ends, are 0
abbrev pub bounds : State → List ℕ → List ℕ
bounds Fresh tops = slice_set (slice_set (slice_set (slice_set tops 8 0) 9 0) 10 0) 11 0
bounds Est tops = tops

-- the greatest values of a site
abbrev pub AreTops : List ℕ → Type 0
AreTops tops = (site : Site) × (tops ≡ tops_of site)
