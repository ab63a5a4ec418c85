use Rattle.std.proofs.Common.{◌≡◌, ℕ, ◌+◌, ◌^◌, ◌&&◌}
use Rattle.std.specs.Prelude.{nat_lt}
use Rattle.fws_iv.specs.Ivs.{has}
use Rattle.fws_net.specs.Routes.{route_of}
use Rattle.fws_place.specs.Rewritings.{is_outside, side_of}
use Rattle.fws_place.proofs.crossing.led_outside.Given as goal

abbrev pub invariant-loop-n : goal.invariant-loop-n
invariant-loop-n l = (a : ℕ) → has l.set a ≡ ((is_outside (side_of l.site (route_of l.site a)) && nat_lt (route_of l.site a) (l.n + 2)) && nat_lt a (2 ^ 32))
