-- Numbers that are right in rules which are put together of parts.
use Rattle.std.specs.Prelude.{◌≡◌, ℕ, ◌+◌, ◌<◌, ◌≤◌, true, List, ◌∷◌, ◌++◌, length}
use Rattle.fws_net.specs.declared.condition.Lit.{Lit}
use Rattle.fws_ifcl.specs.declared.diagram.Act.TheVariants.{Skip}
use Rattle.fws_ifcl.specs.declared.diagram.Rule.{Rule}
use Rattle.fws_ifcl.specs.Soundness.{act_ok, rules_ok}
use Rattle.fws_ifcl_rules.specs.Rules.{guarded}

-- among so many chains, and in a chain of so many rules, those of which the first has the place at are right
abbrev pub RightAmong : ℕ → ℕ → ℕ → List Rule → Type 0
RightAmong chains total at rules = rules_ok chains total at rules ≡ true

-- right are a skip that goes forward within the rules, a rule ahead of rules, rules ahead of rules that have the place next, and
-- rules that are met where a condition holds
pub record RightByParts (chains total : ℕ) : Type 0 where
  pub skip : (at to : ℕ) → at < to → to ≤ total → act_ok chains total at (Skip to) ≡ true
  pub first : (at : ℕ) (r : Rule) (rs : List Rule) → act_ok chains total at r.act ≡ true → RightAmong chains total (at + 1) rs → RightAmong chains total at (r ∷ rs)
  pub joined : (at next : ℕ) (xs ys : List Rule) → at + length xs ≡ next → RightAmong chains total at xs → RightAmong chains total next ys → RightAmong chains total at (xs ++ ys)
  pub guarded : (at : ℕ) (test : List Lit) (inner : List Rule) → RightAmong chains total (at + 2) inner → at + (2 + length inner) ≤ total
      → RightAmong chains total at (guarded at test inner)

-- so it is in every diagram
abbrev pub RulesAreRightByParts : Type 0
RulesAreRightByParts = (chains total : ℕ) → RightByParts chains total
