-- What functions are handed, as definitions take it.
use Rattle.std.specs.Prelude.{ℕ, List, length}
use Rattle.fws_pf.specs.declared.config.PfRule.{PfRule}
use Rattle.fws_pf.specs.declared.config.Way.{Way}
use Rattle.fws_tree.specs.declared.node.Kid.{Kid}
use Rattle.fws_pf_put_filter.specs.declared.plan.Plan.{Plan}
use Rattle.fws_pf_put_filter.specs.declared.tested.Tested.{Tested}
use Rattle.fws_pf_put_filter.specs.Blocks.{AreMoves, ArePasses, IsCutBlock, IsNodeBlock, IsPassOf}
use Rattle.fws_pf_put_filter.specs.Filters.{IsFilter}
use Rattle.fws_pf_put_filter.specs.Rules.{AreTestedRules, AreUntestedRules, IsLastRule}

-- the rules of a cut for what no test takes, for its kids by a test, and for kids that no test tells apart
abbrev pub IsLastOf : Plan → Way → ℕ → ℕ → List PfRule → Type 0
IsLastOf p way from default block = IsLastRule p.leaves.now p.nodes.now way from default block

abbrev pub AreTestedOf : Plan → Tested → ℕ → List Kid → List PfRule → Type 0
AreTestedOf p tested from kids block = AreTestedRules p.leaves.now p.nodes.now p.states.now tested from kids block

abbrev pub AreUntestedOf : Plan → ℕ → List Kid → List PfRule → Type 0
AreUntestedOf p from kids block = AreUntestedRules p.leaves.now p.nodes.now p.states.now from kids block

-- the rules of a cut, of a node, and of all nodes
abbrev pub IsCutOf : Plan → ℕ → List PfRule → Type 0
IsCutOf p n block = IsCutBlock p.site.now p.tree.now.0 p.leaves.now p.nodes.now p.states.now n block

abbrev pub IsNodeOf : Plan → ℕ → List PfRule → Type 0
IsNodeOf p n block = IsNodeBlock p.site.now p.tree.now.0 p.leaves.now p.nodes.now p.states.now n block

abbrev pub AreAllMoves : Plan → List PfRule → Type 0
AreAllMoves p block = AreMoves p.site.now p.tree.now.0 p.leaves.now p.nodes.now p.states.now 0 block

-- the rules that pass packets: of one state, and of all
abbrev pub IsPassFor : Plan → ℕ → List PfRule → Type 0
IsPassFor p n block = IsPassOf p.leaves.now p.nodes.now p.states.now n block

abbrev pub AreAllPasses : Plan → List PfRule → Type 0
AreAllPasses p block = ArePasses p.site.now p.leaves.now p.nodes.now p.states.now (length p.nodes.now) block

-- the filter of a plan
abbrev pub IsFilterOf : Plan → List PfRule → Type 0
IsFilterOf p block = IsFilter p.site.now p.tree.now.0 p.leaves.now p.nodes.now p.states.now block
