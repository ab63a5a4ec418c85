use Rattle.std.proofs.Common.{drop, map}
use Rattle.fws_pf_print.specs.Printable.{behind_rules}
use Rattle.fws_pf_put.specs.Renumbered.{renamed_rule}
use Rattle.fws_pf_put.proofs.Numbering.{GathersSoFar}
use Rattle.fws_pf_put.proofs.gathering.gather_rules.Given as goal

abbrev pub invariant-loop-rule : goal.invariant-loop-rule
invariant-loop-rule l =
    GathersSoFar l.fn.tags.keys l.tags.keys (λ f known. behind_rules (map (renamed_rule f) l.rules) known) (λ f known. behind_rules (map (renamed_rule f) (drop l.rule-index l.rules)) known)
