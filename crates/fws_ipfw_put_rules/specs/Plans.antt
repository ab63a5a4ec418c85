-- What functions are handed, as definitions take it.
use Rattle.std.specs.Prelude.{ℕ, List}
use Rattle.fws_ipfw.specs.declared.config.IpfwRule.{IpfwRule}
use Rattle.fws_net.specs.declared.condition.Lit.{Lit}
use Rattle.fws_ipfw_put_rules.specs.declared.plan.Plan.{Plan}
use Rattle.fws_ipfw_put_rules.specs.declared.turn.Turn.{Turn}
use Rattle.fws_ipfw_put_rules.specs.Blocks.{AreNodeRules, AreRootTurns, AreTurnRules, IsPlanned}
use Rattle.fws_ipfw_put_rules.specs.Lists.{IsList}

-- what is known of a plan
abbrev pub IsKnown : Plan → Type 0
IsKnown p = IsPlanned p.site.now p.tree.now.0 p.tree.now.1 p.section.now p.leaves.now p.nodes.now

-- rules and turns for the tree of a plan
abbrev pub AreRulesOfNode : Plan → ℕ → List Lit → List IpfwRule → Type 0
AreRulesOfNode p at cond block = AreNodeRules p.site.now p.tree.now.0 p.section.now p.tree.now.1 p.leaves.now p.nodes.now at cond block

abbrev pub AreFirstTurns : Plan → List Turn → Type 0
AreFirstTurns p turns = AreRootTurns p.site.now p.tree.now.0 p.section.now p.tree.now.1 p.leaves.now p.nodes.now turns

abbrev pub AreRulesOfTurns : Plan → List Lit → List Turn → List IpfwRule → Type 0
AreRulesOfTurns p cond turns block = AreTurnRules p.site.now p.tree.now.0 p.section.now p.tree.now.1 p.leaves.now p.nodes.now cond turns block

abbrev pub IsListOf : Plan → List IpfwRule → Type 0
IsListOf p block = IsList p.site.now p.tree.now.0 p.section.now p.tree.now.1 block
