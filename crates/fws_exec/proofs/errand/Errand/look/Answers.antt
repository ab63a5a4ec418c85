use Rattle.std.proofs.Common.{slice_index, refl}
use Rattle.fws_exec.proofs.errand.Errand.look.Goals as goal

pub returns : goal.returns
returns c p inside = record {
  proto = c.of_hull-proto.ensures p inside;
  src = c.of_addr.ensures (slice_index p 4) (slice_index p 10) (c.of_hull.ensures p inside);
  sport = c.of_port.ensures (slice_index p 1) (slice_index p 5) (slice_index p 11) (c.of_hull-proto.ensures p inside) (c.of_hull-2.ensures p inside);
  dst = c.of_addr-2.ensures (slice_index p 2) (slice_index p 8) (c.of_hull-3.ensures p inside);
  dport = c.of_port-2.ensures (slice_index p 1) (slice_index p 3) (slice_index p 9) (c.of_hull-proto.ensures p inside) (c.of_hull-4.ensures p inside);
  recv = c.recv.ensures c.args.progress.now p inside;
  xmit = c.xmit.ensures p inside;
  outward = refl;
  est = c.is_est.ensures c.args.progress.now p;
}
