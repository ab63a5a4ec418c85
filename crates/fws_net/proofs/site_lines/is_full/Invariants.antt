use Rattle.std.proofs.Common.{◌≡◌, ◌<◌, drop, nat_le}
use Rattle.fws_net.specs.SiteLines.{address_count}
use Rattle.fws_net.proofs.site_lines.is_full.Given as goal

abbrev pub invariant-loop-face : goal.invariant-loop-face
invariant-loop-face l = record {
  so_far : nat_le l.room (address_count (drop l.face-index l.seen)) ≡ nat_le 1024 (address_count l.seen);
  some : 0 < l.room;
}
