-- Walks that give alike packets one outcome are regular.
use Rattle.std.proofs.Common.{◌≡◌, ◌≢◌, ℕ, false, refl, eqb-true}
use Rattle.std.proofs.lemmas.Bool.{both_ways}
use Rattle.fws_net.specs.declared.packet.Packet.{Packet}
use Rattle.fws_net.specs.declared.connection.Rec.{Rec}
use Rattle.fws_net.specs.declared.connection.Kind.{Kind}
use Rattle.fws_net.specs.declared.connection.Kind.TheVariants.{New, Est}
use Rattle.fws_net.specs.Fates.{has_ports}
use Rattle.fws_rules.specs.Alike.{Alike}
use Rattle.fws_rules.specs.AlikeWays.{AlikeRecs, AlikeKinds}
use Rattle.fws_rules.specs.Regular.{AlikeWalksAreRegular}

same_kind : (p : Packet) (k : Kind) → AlikeKinds p k k
same_kind p New = tt
same_kind p (Est r) = record { dst = refl; src = refl; dport = λ on. refl; sport = λ on. refl }

itself_alike : (p : Packet) → Alike p p
itself_alike p = record {
  entry = refl;
  proto = refl;
  dst = refl;
  src = refl;
  dport = λ on. refl;
  sport = λ on. refl;
  flags = λ on. refl;
  icmp = λ on. refl;
}

ports_alike : (p : Packet) (x y : ℕ) → has_ports p.proto ≡ false → Alike (record p { dport = x; sport = y }) p
ports_alike p x y off = record {
  entry = refl;
  proto = refl;
  dst = refl;
  src = refl;
  dport = λ on. absurd (both_ways (has_ports p.proto) off on);
  sport = λ on. absurd (both_ways (has_ports p.proto) off on);
  flags = λ on. refl;
  icmp = λ on. refl;
}

sent_ports_alike : (p : Packet) (r : Rec) (x y : ℕ) → has_ports p.proto ≡ false → AlikeRecs p (record r { rdport = x; rsport = y }) r
sent_ports_alike p r x y off = record {
  dst = refl;
  src = refl;
  dport = λ on. absurd (both_ways (has_ports p.proto) off on);
  sport = λ on. absurd (both_ways (has_ports p.proto) off on);
}

flags_alike : (p : Packet) (x : ℕ) → p.proto ≢ 6 → Alike (record p { flags = x }) p
flags_alike p x off = record {
  entry = refl;
  proto = refl;
  dst = refl;
  src = refl;
  dport = λ on. refl;
  sport = λ on. refl;
  flags = λ on. absurd (off (eqb-true p.proto 6 on));
  icmp = λ on. refl;
}

icmp_alike : (p : Packet) (x : ℕ) → p.proto ≢ 1 → Alike (record p { icmp = x }) p
icmp_alike p x off = record {
  entry = refl;
  proto = refl;
  dst = refl;
  src = refl;
  dport = λ on. refl;
  sport = λ on. refl;
  flags = λ on. refl;
  icmp = λ on. absurd (off (eqb-true p.proto 1 on));
}

pub alike_walks_are_regular : AlikeWalksAreRegular
alike_walks_are_regular site walk h = record {
  ports = λ p k x y off. h.alike (record p { dport = x; sport = y }) p k k (ports_alike p x y off) (same_kind (record p { dport = x; sport = y }) k);
  sent_ports = λ p r x y off. h.alike p p (Est (record r { rdport = x; rsport = y })) (Est r) (itself_alike p) (sent_ports_alike p r x y off);
  flags = λ p k x off. h.alike (record p { flags = x }) p k k (flags_alike p x off) (same_kind (record p { flags = x }) k);
  icmp = λ p k x off. h.alike (record p { icmp = x }) p k k (icmp_alike p x off) (same_kind (record p { icmp = x }) k);
  written = h.written;
  unwritten = h.unwritten;
  leaves = h.leaves;
  lost = h.lost;
}
