use Rattle.std.proofs.Common.{◌≡◌, ◌++◌, List, take}
use Rattle.fws_pf.specs.declared.config.PfRule.{PfRule}
use Rattle.fws_pf_put_filter.specs.Rules.{AreAllKidRules}
use Rattle.fws_pf_put_filter.proofs.nodes.put_kids.Given as goal

abbrev pub invariant-loop-kid : goal.invariant-loop-kid
invariant-loop-kid l =
    (block : List PfRule) × (l.rules ≡ l.initial.rules ++ block) × AreAllKidRules l.tested l.states l.from l.default (take l.kid-index l.kids) block
