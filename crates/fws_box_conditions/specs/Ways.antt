-- The destinations of a site as sets.
use Rattle.std.specs.Prelude.{◌≡◌, ℕ, ◌+◌, ◌^◌, ◌<◌, ◌&&◌, nat_eq, nat_lt, [], length, slice_index_or}
use Rattle.fws_iv.specs.Ivs.{has}
use Rattle.fws_net.specs.declared.site.Site.{Site}
use Rattle.fws_net.specs.Routes.{is_local, route_of}
use Rattle.fws_box_conditions.specs.declared.ways.Ways.{Ways}

-- the local addresses of the site, and for each entry number the addresses that are routed to that interface
pub record AreWaysOf (site : Site) (ways : Ways) : Type 0 where
  pub local : (a : ℕ) → has ways.local a ≡ is_local site a
  pub many : length ways.routed ≡ length site.faces + 2
  pub routed : (entry a : ℕ) → entry < length site.faces + 2 → has (slice_index_or ways.routed entry []) a ≡ (nat_eq (route_of site a) entry && nat_lt a (2 ^ 32))
