use Rattle.std.proofs.Common.{◌≡◌, ◌++◌, drop, map}
use Rattle.fws_pf_put.specs.Renumbered.{place_in, renamed_rule}
use Rattle.fws_pf_put.proofs.names.renamed_rules.Given as goal

abbrev pub invariant-loop-rule : goal.invariant-loop-rule
invariant-loop-rule l =
    l.renamed ++ map (renamed_rule (place_in l.tags.keys)) (drop l.rule-index l.rules) ≡ map (renamed_rule (place_in l.tags.keys)) l.rules
