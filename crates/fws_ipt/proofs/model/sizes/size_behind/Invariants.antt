use Rattle.std.proofs.Common.{◌≡◌, ◌+◌, ◌≤◌, map, drop}
use Rattle.std.specs.Prelude.{sum}
use Rattle.fws_ipt.specs.Refusals.{all_named, rules_width, chain_width}
use Rattle.fws_ipt.specs.Levels.{capped, size_at}
use Rattle.fws_ipt.proofs.model.sizes.size_behind.Given as goal

abbrev pub invariant-loop-rule : goal.invariant-loop-rule
invariant-loop-rule l = record {
  small : l.size ≤ 1000001;
  so_far : capped (l.size + (rules_width l.faces (drop l.rule-index l.rule-items) + sum (map (size_at l.before) (all_named (drop l.rule-index l.rule-items)))))
      ≡ capped (chain_width l.faces l.chain + sum (map (size_at l.before) (all_named l.chain.rules)));
}
