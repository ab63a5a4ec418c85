use Rattle.std.proofs.Common.{◌≡◌, drop, None}
use Rattle.fws_pfo.specs.Walk.{rules_walk}
use Rattle.fws_pfo.proofs.model.rules.rules_walk.Given as goal

abbrev pub invariant-loop-rule : goal.invariant-loop-rule
invariant-loop-rule l =
    rules_walk l.scene.site.now l.scene.packet.now l.scene.outward (drop l.rule-index l.rule-items) l.held l.now
    ≡ rules_walk l.scene.site.now l.scene.packet.now l.scene.outward l.scene.config.now.rules None l.fn.t
