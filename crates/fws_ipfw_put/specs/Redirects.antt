-- The redirects that a table of new packets shows.
use Rattle.std.specs.Prelude.{◌≡◌, ◌≢◌, ◌≤◌, Some, List, Contains, All, length}
use Rattle.fws_net.specs.declared.outcome.End.{End}
use Rattle.fws_net.specs.declared.outcome.Outcome.TheVariants.{Accept}
use Rattle.fws_net.specs.declared.outcome.Rewrite.{Rewrite}
use Rattle.fws_net.specs.declared.packet.Packet.{Packet}
use Rattle.fws_net.specs.declared.site.Site.{Site}
use Rattle.fws_place.specs.declared.redirect.Redirect.{Redirect}
use Rattle.fws_place.specs.Counts.{IsShown, new_rows, redirect_of}
use Rattle.fws_place.specs.Meaning.{IsPacketOf, new_of}
use Rattle.fws_tree.specs.declared.tables.Tables.{Tables}

-- the redirects of the packets that get a destination
abbrev pub ShowAll : Site → Tables → List Redirect → Type 0
ShowAll site tables rs = (p : Packet) (w : Rewrite) (e : End) → IsPacketOf site p → new_of tables p ≡ Accept w → w.dst ≡ Some e → Contains rs (redirect_of e p)

pub record AreRedirects (site : Site) (tables : Tables) (rs : List Redirect) : Type 0 where
  pub shown : ShowAll site tables rs
  pub sound : All (IsShown site tables (new_rows tables)) rs
  pub few : length rs ≤ 4096
  pub somewhere : All (λ r. r.public.addr ≢ 0) rs
