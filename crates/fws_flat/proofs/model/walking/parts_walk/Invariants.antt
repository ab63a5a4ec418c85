use Rattle.std.proofs.Common.{◌≡◌, ◌++◌, drop}
use Rattle.fws_flat.specs.Walk.{parts_walk}
use Rattle.fws_flat.specs.Uses.{parts_used}
use Rattle.fws_flat.proofs.model.walking.parts_walk.Given as goal

abbrev pub invariant-loop-part : goal.invariant-loop-part
invariant-loop-part l = record {
  walked : parts_walk l.trip.flat.now.code l.trip.site.now l.trip.packet.now l.trip.kind.now (drop l.part-index l.parts) l.now
      ≡ parts_walk l.trip.flat.now.code l.trip.site.now l.trip.packet.now l.trip.kind.now l.parts l.fn.t;
  logged : l.log.items ++ parts_used l.trip.flat.now.code l.trip.site.now l.trip.packet.now l.trip.kind.now (drop l.part-index l.parts) l.now
      ≡ l.fn.log.items ++ parts_used l.trip.flat.now.code l.trip.site.now l.trip.packet.now l.trip.kind.now l.parts l.fn.t;
}
