use Rattle.std.proofs.Common.{◌≡◌, ◌++◌, List, take}
use Rattle.fws_ipt.specs.declared.config.IptRule.{IptRule}
use Rattle.fws_ipt_put_chains.specs.Rules.{AreKidRules}
use Rattle.fws_ipt_put_chains.proofs.rules.put_kids.Given as goal

abbrev pub invariant-loop-kid : goal.invariant-loop-kid
invariant-loop-kid l =
    (block : List IptRule) × (l.rules ≡ l.initial.rules ++ block) × AreKidRules l.coming l.field l.acts (take l.kid-index l.kids) block
