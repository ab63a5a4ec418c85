use Rattle.std.proofs.Common.{◌≡◌, ◌&&◌, ◌^◌, ℕ, nat_lt}
use Rattle.fws_iv.specs.Ivs.{has}
use Rattle.fws_net.specs.Routes.{route_of}
use Rattle.fws_box_conditions.proofs.sets.routed_set.Given as goal

abbrev pub invariant-loop-entry : goal.invariant-loop-entry
invariant-loop-entry l = (a : ℕ) → has l.routed a ≡ (nat_lt (route_of l.site a) l.entry && (has l.set (route_of l.site a) && nat_lt a (2 ^ 32)))
