use Rattle.std.proofs.Common.{◌≡◌, ◌+◌, ◌*◌, ◌++◌, drop}
use Rattle.fws_ifcl.specs.Walk.{chain_walk, rules_at, rules_walk}
use Rattle.fws_ifcl.specs.Uses.{chain_used, rules_used}
use Rattle.fws_ifcl.proofs.model.chains.+chain_walk.Given as goal

abbrev pub decreases-chain_walk : goal.decreases-chain_walk
decreases-chain_walk l = 3 * l.left

abbrev pub decreases-rules_walk : goal.decreases-rules_walk
decreases-rules_walk l = 3 * l.left + 2

abbrev pub decreases-turn_of : goal.decreases-turn_of
decreases-turn_of l = 3 * l.left + 1

abbrev pub invariant-rules_walk-loop-at : goal.invariant-rules_walk-loop-at
invariant-rules_walk-loop-at l = record {
  walked : rules_walk (chain_walk l.scene.chains.now l.scene.site.now l.scene.packet.now l.scene.kind.now l.scene.stage l.left l.path)
      l.scene.site.now l.scene.packet.now l.scene.kind.now l.scene.stage l.at (drop l.at l.rule-items) l.to l.now
      ≡ rules_walk (chain_walk l.scene.chains.now l.scene.site.now l.scene.packet.now l.scene.kind.now l.scene.stage l.left l.path)
      l.scene.site.now l.scene.packet.now l.scene.kind.now l.scene.stage 0 (rules_at l.scene.chains.now l.fn.c) 0 l.fn.t;
  logged : l.log.items ++ rules_used (chain_used l.scene.chains.now l.scene.site.now l.scene.packet.now l.scene.kind.now l.scene.stage l.left l.path)
      (chain_walk l.scene.chains.now l.scene.site.now l.scene.packet.now l.scene.kind.now l.scene.stage l.left l.path)
      l.fn.c l.scene.site.now l.scene.packet.now l.scene.kind.now l.scene.stage l.at (drop l.at l.rule-items) l.to l.now
      ≡ l.fn.log.items ++ rules_used (chain_used l.scene.chains.now l.scene.site.now l.scene.packet.now l.scene.kind.now l.scene.stage l.left l.path)
      (chain_walk l.scene.chains.now l.scene.site.now l.scene.packet.now l.scene.kind.now l.scene.stage l.left l.path)
      l.fn.c l.scene.site.now l.scene.packet.now l.scene.kind.now l.scene.stage 0 (rules_at l.scene.chains.now l.fn.c) 0 l.fn.t;
}
