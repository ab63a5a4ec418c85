-- Laws of routes, in the words of their subject.
use Rattle.std.specs.Prelude.{◌≡◌, ◌≢◌, ◌<◌, ◌≤◌, ◌+◌, ℕ, true, false, length, Contains}
use Rattle.fws_net.specs.declared.site.RouteLine.{RouteLine}
use Rattle.fws_net.specs.declared.site.Site.{Site}
use Rattle.fws_net.specs.Routes.{leads, prefixes_of, route_of, IsSound}

-- a prefix of the site that holds the address, and that every other one which holds it is shorter than, leads it; an
-- address that no prefix holds is led by the default interface
pub record LongestPrefixLeads (site : Site) (a : ℕ) : Type 0 where
  pub led : (line : RouteLine) → Contains (prefixes_of site) line → leads line a ≡ true
      → ((other : RouteLine) → Contains (prefixes_of site) other → leads other a ≡ true → other ≢ line → other.net.len < line.net.len)
      → route_of site a ≡ line.face
  pub unled : ((line : RouteLine) → Contains (prefixes_of site) line → leads line a ≡ false) → route_of site a ≡ site.fallback

abbrev pub LongestPrefixesLead : Type 0
LongestPrefixesLead = (site : Site) (a : ℕ) → LongestPrefixLeads site a

-- every address is led to an interface
abbrev pub RoutesAreEntries : Type 0
RoutesAreEntries = (site : Site) (a : ℕ) → IsSound site → (2 ≤ route_of site a) × (route_of site a ≤ length site.faces + 1)
