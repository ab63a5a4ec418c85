-- What functions are handed, as definitions take it.
use Rattle.std.specs.Prelude.{◌≡◌, ℕ, ◌+◌, true, Option, Some, option_and_then, List, ◌++◌, take, drop, All, MatchOption, slice_get, []}
use Rattle.std.specs.List.{list_any}
use Rattle.fws_iv.specs.Ivs.{has}
use Rattle.fws_ipt.specs.declared.config.IptChain.{IptChain}
use Rattle.fws_ipt.specs.declared.config.IptGo.{IptGo}
use Rattle.fws_tree_seen.specs.declared.field.PacketField.{PacketField}
use Rattle.fws_tree.specs.declared.node.Kid.{Kid}
use Rattle.fws_tree.specs.declared.node.Node.{Node}
use Rattle.fws_ipt_put_chains.specs.declared.coming.Coming.{Coming}
use Rattle.fws_ipt_put_chains.specs.declared.plan.Plan.{Plan}
use Rattle.fws_ipt_put_chains.specs.declared.verdict.Branch.{Branch}
use Rattle.fws_ipt_put_chains.specs.declared.verdict.Verdict.{Verdict}
use Rattle.fws_ipt_put_chains.specs.Acts.{AreActs}
use Rattle.fws_ipt_put_chains.specs.Planned.{ArePut, IsPlanned}
use Rattle.fws_ipt.specs.declared.config.IptRule.{IptRule}
use Rattle.fws_ipt_put_chains.specs.Pieces.{IsSpelled, unspelled}
use Rattle.fws_ipt_put_chains.specs.Rules.{AreKidRules}

-- what is known of a plan, of the chains behind which others are put, and of the tree's leaves and nodes
abbrev pub IsKnown : Plan → List IptChain → List Verdict → List Node → Type 0
IsKnown p old leaves nodes = IsPlanned p.site.now p.tree.now.0 p.tree.now.1 p.table p.front.now p.seen p.least old leaves nodes

-- the chains of a plan, and the branches that lead into them
abbrev pub ArePutFor : Plan → List IptChain → List IptChain → List Branch → Type 0
ArePutFor p old new branches = ArePut p.site.now p.tree.now.0 p.tree.now.1 p.table p.seen p.least old new branches

-- the acts of the nodes of a plan
abbrev pub AreActsFor : Plan → ℕ → List IptChain → List Coming → List Verdict → List Node → List IptGo → Type 0
AreActsFor p before chains comings leaves nodes acts = AreActs p.site.now p.seen p.table p.least before chains comings leaves nodes acts

-- Kids

-- a rule can name the set of each kid but the one at a place
abbrev pub AreSpelledBut : Option PacketField → ℕ → List Kid → Type 0
AreSpelledBut field at kids =
    (f : PacketField) → field ≡ Some f → All (λ kid. IsSpelled f kid.set) (take at kids) × All (λ kid. IsSpelled f kid.set) (drop (at + 1) kids)

-- the rules of all kids but the one at a place, if the field can be tested
abbrev pub AreOtherRules : Coming → Option PacketField → List IptGo → ℕ → List Kid → List IptRule → Type 0
AreOtherRules coming field acts at kids rules =
    MatchOption field (rules ≡ []) (λ f. AreKidRules coming f acts (take at kids ++ drop (at + 1) kids) rules)

-- where some kid has the value that no rule can test, the one at the place has it
abbrev pub HoldsUnspelled : Option PacketField → List Kid → ℕ → Type 0
HoldsUnspelled field kids at = (v : ℕ) → option_and_then unspelled field ≡ Some v → list_any (λ kid. has kid.set v) kids ≡ true
    → (kid : Kid) → slice_get kids at ≡ Some kid → has kid.set v ≡ true
