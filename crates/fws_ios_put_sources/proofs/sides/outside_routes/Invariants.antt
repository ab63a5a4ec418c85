use Rattle.std.proofs.Common.{◌≡◌, ℕ, ◌^◌, ◌&&◌, true}
use Rattle.std.specs.Prelude.{nat_lt}
use Rattle.fws_ios_put_sources.specs.Sources.{is_on}
use Rattle.fws_iv.specs.Ivs.{has}
use Rattle.fws_net.specs.Routes.{route_of}
use Rattle.fws_place.specs.Rewritings.{side_of}
use Rattle.fws_ios_put_sources.proofs.sides.outside_routes.Given as goal

abbrev pub invariant-loop-entry : goal.invariant-loop-entry
invariant-loop-entry l = (a : ℕ) → has l.set a ≡ ((nat_lt (route_of l.site a) l.entry && is_on true (side_of l.site (route_of l.site a))) && nat_lt a (2 ^ 32))
