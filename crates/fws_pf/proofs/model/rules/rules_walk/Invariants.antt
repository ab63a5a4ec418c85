use Rattle.std.proofs.Common.{◌≡◌, drop}
use Rattle.fws_pf.specs.Walk.{rules_walk}
use Rattle.fws_pf.proofs.model.rules.rules_walk.Given as goal

abbrev pub invariant-loop-rule : goal.invariant-loop-rule
invariant-loop-rule l =
    rules_walk l.scene.site.now l.scene.outward (drop l.rule-index l.rule-items) l.now
    ≡ rules_walk l.scene.site.now l.scene.outward l.scene.config.now.filter l.fn.t
