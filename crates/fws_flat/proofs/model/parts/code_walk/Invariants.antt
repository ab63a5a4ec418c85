use Rattle.std.proofs.Common.{◌≡◌, ◌+◌, ◌++◌, drop}
use Rattle.fws_flat.specs.Walk.{code_walk}
use Rattle.fws_flat.specs.Uses.{code_used}
use Rattle.fws_flat.proofs.model.parts.code_walk.Given as goal

abbrev pub invariant-loop-k : goal.invariant-loop-k
invariant-loop-k l = record {
  walked : code_walk l.scene.site.now l.scene.packet.now l.scene.kind.now l.scene.part (l.first + l.k) (drop l.k l.code) l.to l.now
      ≡ code_walk l.scene.site.now l.scene.packet.now l.scene.kind.now l.scene.part l.first l.code 0 l.fn.t;
  logged : l.log.items ++ code_used l.scene.site.now l.scene.packet.now l.scene.kind.now l.scene.part (l.first + l.k) (drop l.k l.code) l.to l.now
      ≡ l.fn.log.items ++ code_used l.scene.site.now l.scene.packet.now l.scene.kind.now l.scene.part l.first l.code 0 l.fn.t;
}
