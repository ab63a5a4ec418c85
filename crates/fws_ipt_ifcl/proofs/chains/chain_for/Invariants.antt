use Rattle.std.proofs.Common.{◌≡◌, ◌++◌, length, drop}
use Rattle.fws_ipt_ifcl.specs.Diagram.{unfolded_all, chain_for, is_on_source}
use Rattle.fws_ipt_ifcl.proofs.chains.chain_for.Given as goal

abbrev pub invariant-loop-rule : goal.invariant-loop-rule
invariant-loop-rule l =
    l.rules.items ++ unfolded_all l.test l.site (is_on_source l.chain.name) (length l.rules.items) (drop l.rule-index l.chain.rules) ≡ (chain_for l.test l.site l.chain).rules
