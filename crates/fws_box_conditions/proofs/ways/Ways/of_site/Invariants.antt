use Rattle.std.proofs.Common.{◌≡◌, ◌<◌, ◌&&◌, ◌^◌, ℕ, [], nat_eq, nat_lt, length, get_or}
use Rattle.fws_iv.specs.Ivs.{has}
use Rattle.fws_net.specs.Routes.{route_of}
use Rattle.fws_box_conditions.proofs.ways.Ways.of_site.Given as goal

abbrev pub invariant-loop-entry : goal.invariant-loop-entry
invariant-loop-entry l = record {
  many : length l.routed ≡ l.entry;
  routed : (e a : ℕ) → e < l.entry → has (get_or l.routed e []) a ≡ (nat_eq (route_of l.site a) e && nat_lt a (2 ^ 32));
}
