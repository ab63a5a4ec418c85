use Rattle.std.proofs.Common.{◌≡◌, ◌+◌, ◌*◌, drop}
use Rattle.fws_ipt.specs.Walk.{chain_walk, rules_walk}
use Rattle.fws_ipt.proofs.model.chains.+chains.Given as goal

abbrev pub decreases-chain_walk : goal.decreases-chain_walk
decreases-chain_walk l = 2 * l.left

abbrev pub decreases-rules_walk : goal.decreases-rules_walk
decreases-rules_walk l = 2 * l.left + 1

abbrev pub invariant-rules_walk-loop-rule : goal.invariant-rules_walk-loop-rule
invariant-rules_walk-loop-rule l =
    rules_walk (chain_walk l.scene.chains.now l.scene.site.now l.scene.entered l.scene.is_est l.scene.hook l.left l.path) l.scene.site.now l.scene.entered l.scene.is_est l.scene.hook (drop l.rule-index l.rules) l.now
    ≡ rules_walk (chain_walk l.scene.chains.now l.scene.site.now l.scene.entered l.scene.is_est l.scene.hook l.left l.path) l.scene.site.now l.scene.entered l.scene.is_est l.scene.hook l.rules l.fn.m
