use Rattle.std.proofs.Common.{◌≡◌, drop}
use Rattle.fws_ipt.specs.Walk.{visits}
use Rattle.fws_ipt.proofs.model.walking.visits.Given as goal

abbrev pub invariant-loop-table : goal.invariant-loop-table
invariant-loop-table l = visits l.trip.config.now l.trip.site.now l.trip.packet.now l.trip.kind.now (drop l.table-index l.places) l.now
    ≡ visits l.trip.config.now l.trip.site.now l.trip.packet.now l.trip.kind.now l.places l.fn.m
