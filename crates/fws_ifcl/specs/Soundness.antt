-- When the numbers in a diagram are right.
use Rattle.std.specs.Prelude.{ℕ, suc, Bool, true, ◌&&◌, nat_lt, nat_le, List, [], ◌∷◌, length}
use Rattle.std.specs.List.{list_all}
use Rattle.fws_ifcl.specs.declared.diagram.Act.{Act}
use Rattle.fws_ifcl.specs.declared.diagram.Act.TheVariants.{Call, Goto, Skip}
use Rattle.fws_ifcl.specs.declared.diagram.Rule.{Rule}
use Rattle.fws_ifcl.specs.declared.diagram.Chain.{Chain}
use Rattle.fws_ifcl.specs.declared.diagram.Stage.{Stage}
use Rattle.fws_ifcl.specs.declared.diagram.Ifcl.{Ifcl}

-- the rule at a place of so many names one of so many chains, and skips forward to at most one past the rules
abbrev pub act_ok : ℕ → ℕ → ℕ → Act → Bool
act_ok chains rules at (Call c) = nat_lt c chains
act_ok chains rules at (Goto c) = nat_lt c chains
act_ok chains rules at (Skip to) = nat_lt at to && nat_le to rules
act_ok chains rules at _ = true

-- rules of which the first has the place at
abbrev pub rules_ok : ℕ → ℕ → ℕ → List Rule → Bool
rules_ok chains rules at [] = true
rules_ok chains rules at (r ∷ rs) = act_ok chains rules at r.act && rules_ok chains rules (suc at) rs

abbrev pub chain_ok : ℕ → Chain → Bool
chain_ok chains chain = rules_ok chains (length chain.rules) 0 chain.rules

-- a stage names one of so many chains
abbrev pub stage_ok : ℕ → Stage → Bool
stage_ok chains stage = nat_lt stage.chain chains

-- every number names a chain, and every skip goes forward, to at most one past the last rule of its chain
abbrev pub ifcl_ok : Ifcl → Bool
ifcl_ok f = list_all (chain_ok (length f.chains)) f.chains
    && list_all (stage_ok (length f.chains)) f.arrive
    && list_all (stage_ok (length f.chains)) f.deliver
    && list_all (stage_ok (length f.chains)) f.forward
    && list_all (stage_ok (length f.chains)) f.send
