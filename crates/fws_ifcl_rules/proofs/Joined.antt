-- Rules are right that are put together of right ones.
use Rattle.std.proofs.Common.{◌≡◌, ℕ, suc, ◌+◌, ◌<◌, ◌≤◌, true, nat_lt, nat_le, List, [], ◌∷◌, ◌++◌, length, arith, subst}
use Rattle.std.proofs.lemmas.Bool.{le-leb, lt-ltb, and_from, and_parts}
use Rattle.fws_net.specs.declared.condition.Lit.{Lit}
use Rattle.fws_ifcl.specs.declared.diagram.Act.TheVariants.{Skip}
use Rattle.fws_ifcl.specs.declared.diagram.Rule.{Rule}
use Rattle.fws_ifcl.specs.Soundness.{act_ok, rules_ok}
use Rattle.fws_ifcl_rules.specs.Right.{RightAmong}
use Rattle.fws_ifcl_rules.specs.Rules.{ruled, always, guarded}

module _ (chains total : ℕ) where
  -- a skip forward within the rules
  pub skip_right : (at to : ℕ) → at < to → to ≤ total → act_ok chains total at (Skip to) ≡ true
  skip_right at to lt le = and_from (nat_lt at to) (nat_le to total) (lt-ltb at to lt) (le-leb to total le)

  -- a rule ahead of rules
  pub first_right : (at : ℕ) (r : Rule) (rs : List Rule) → act_ok chains total at r.act ≡ true → RightAmong chains total (at + 1) rs → RightAmong chains total at (r ∷ rs)
  first_right at r rs here rest =
      let next : at + 1 ≡ suc at = omega arith in
      and_from (act_ok chains total at r.act) (rules_ok chains total (suc at) rs) here (subst (λ n. RightAmong chains total n rs) next rest)

  -- rules ahead of rules
  pub joined_right : (at next : ℕ) (xs ys : List Rule) → at + length xs ≡ next → RightAmong chains total at xs → RightAmong chains total next ys → RightAmong chains total at (xs ++ ys)
  joined_right at next [] ys place first second =
      let same : next ≡ at = omega (arith, place) in
      subst (λ n. RightAmong chains total n ys) same second
  joined_right at next (x ∷ xs) ys place first second =
      let both = and_parts (act_ok chains total at x.act) (rules_ok chains total (suc at) xs) first in
      and_from (act_ok chains total at x.act) (rules_ok chains total (suc at) (xs ++ ys)) both.0
      (joined_right (suc at) next xs ys (omega (arith, place)) both.1 second)

  -- rules met where a condition holds
  pub guarded_right : (at : ℕ) (test : List Lit) (inner : List Rule) → RightAmong chains total (at + 2) inner → at + (2 + length inner) ≤ total
      → RightAmong chains total at (guarded at test inner)
  guarded_right at test inner right far =
      let past = at + (2 + length inner) in
      let next : at + 2 ≡ (at + 1) + 1 = omega arith in
      first_right at (ruled test (Skip (at + 2))) (always (Skip past) ∷ inner) (skip_right at (at + 2) (omega arith) (omega (arith, far)))
      (first_right (at + 1) (always (Skip past)) inner (skip_right (at + 1) past (omega arith) far) (subst (λ n. RightAmong chains total n inner) next right))
