use Rattle.std.proofs.Common.{◌≡◌, ◌++◌, drop}
use Rattle.fws_ifcl.specs.Walk.{stages_walk}
use Rattle.fws_ifcl.specs.Uses.{stages_used}
use Rattle.fws_ifcl.proofs.model.walking.stages_walk.Given as goal

abbrev pub invariant-loop-stage : goal.invariant-loop-stage
invariant-loop-stage l = record {
  walked : stages_walk l.trip.diagram.now.chains l.trip.site.now l.trip.packet.now l.trip.kind.now (drop l.stage-index l.stages) l.now
      ≡ stages_walk l.trip.diagram.now.chains l.trip.site.now l.trip.packet.now l.trip.kind.now l.stages l.fn.t;
  logged : l.log.items ++ stages_used l.trip.diagram.now.chains l.trip.site.now l.trip.packet.now l.trip.kind.now (drop l.stage-index l.stages) l.now
      ≡ l.fn.log.items ++ stages_used l.trip.diagram.now.chains l.trip.site.now l.trip.packet.now l.trip.kind.now l.stages l.fn.t;
}
