use Rattle.std.proofs.Common.{◌≡◌, drop}
use Rattle.fws_ipfw.specs.Walk.{pass_walk, rules_walk}
use Rattle.fws_ipfw.proofs.model.rules.pass_walk.Given as goal

abbrev pub invariant-loop-rule : goal.invariant-loop-rule
invariant-loop-rule l =
    rules_walk l.scene.config.now l.scene.site.now l.scene.packet.now l.scene.kind.now l.scene.outward (drop l.rule-index l.rule-items) l.to l.now
    ≡ pass_walk l.scene.config.now l.scene.site.now l.scene.packet.now l.scene.kind.now l.scene.outward l.fn.t
