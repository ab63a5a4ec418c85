-- The rules of built-in chains that send packets of a class into the chains of a tree.
use Rattle.std.specs.Prelude.{◌≡◌, ℕ, zero, suc, ◌≤◌, Bool, true, false, not, nat_eq, if◌then◌else◌, List, [], ◌∷◌, ◌++◌}
use Rattle.fws_iv.specs.Ivs.{has}
use Rattle.fws_net.specs.declared.condition.Lit.{Lit}
use Rattle.fws_net.specs.declared.condition.Test.TheVariants.{Est, Recv}
use Rattle.fws_ipt.specs.declared.config.IptGo.{IptGo}
use Rattle.fws_ipt.specs.declared.config.IptGo.TheVariants as acts
use Rattle.fws_ipt.specs.declared.config.IptRule.{IptRule}
use Rattle.fws_ipt_put_chains.specs.declared.verdict.Branch.{Branch}

-- the class is tested: established packets, or new ones
abbrev pub of_class : Bool → Lit
of_class est = record { not = not est; test = Est }

-- the receiving interface is tested
abbrev pub of_entry : ℕ → Lit
of_entry e = record { not = false; test = Recv (record { lo = e; hi = e } ∷ []) }

-- what is done by the first branch that has the entry
abbrev pub go_at : List Branch → ℕ → IptGo
go_at [] e = acts.Accept
go_at (b ∷ bs) e = if has b.entries e then b.go else go_at bs e

-- both accept, both drop, or both go to one chain
abbrev pub is_same_go : IptGo → IptGo → Bool
is_same_go acts.Accept acts.Accept = true
is_same_go acts.Drop acts.Drop = true
is_same_go (acts.Goto c) (acts.Goto d) = nat_eq c d
is_same_go _ _ = false

-- a rule for the packets of a class
abbrev pub class_rule : Bool → IptGo → IptRule
class_rule est go = record { cond = of_class est ∷ []; go = go }

-- a rule for the packets of a class that come from an entry
abbrev pub entry_rule : Bool → ℕ → IptGo → IptRule
entry_rule est e go = record { cond = of_class est ∷ of_entry e ∷ []; go = go }

-- a rule for an entry at which something else is done than what is usual
abbrev pub own_rules : Bool → List Branch → IptGo → ℕ → List IptRule
own_rules est branches usual e = if is_same_go (go_at branches e) usual then [] else entry_rule est e (go_at branches e) ∷ []

-- such rules for the entries 1 to n
abbrev pub entry_rules : Bool → List Branch → IptGo → ℕ → List IptRule
entry_rules est branches usual zero = []
entry_rules est branches usual (suc n) = entry_rules est branches usual n ++ own_rules est branches usual (suc n)

-- rules for the packets of a class that arrive by one of the entries 1 to n, where one of these entries is the usual one
abbrev pub arriving_rules : Bool → List Branch → ℕ → ℕ → List IptRule
arriving_rules est branches usual n =
    entry_rules est branches (go_at branches usual) n ++ class_rule est (go_at branches usual) ∷ []

-- the rule for the host's own packets of a class
abbrev pub sending_rules : Bool → List Branch → List IptRule
sending_rules est branches = class_rule est (go_at branches 0) ∷ []

-- rules for the packets of a class that arrive by one of the entries up to the last one
pub record AreArriving (est : Bool) (branches : List Branch) (last : ℕ) (rules : List IptRule) : Type 0 where
  pub usual : ℕ
  pub low : 1 ≤ usual
  pub high : usual ≤ last
  pub are : rules ≡ arriving_rules est branches usual last

-- rules for arriving packets of connections, and behind them for new ones
pub record AreEntering (known fresh : List Branch) (last : ℕ) (rules : List IptRule) : Type 0 where
  pub usual : ℕ
  pub low : 1 ≤ usual
  pub high : usual ≤ last
  pub usual_new : ℕ
  pub low_new : 1 ≤ usual_new
  pub high_new : usual_new ≤ last
  pub are : rules ≡ arriving_rules true known usual last ++ arriving_rules false fresh usual_new last
