-- Each skip of the diagram goes forward, to at most one past the last rule.
use Rattle.std.proofs.Common.{◌≡◌, ℕ, ◌+◌, ◌<◌, ◌≤◌, Bool, true, false, cond, ◌&&◌, Option, Some, None, List, [], ◌∷◌, ◌++◌, length, map, take, arith, refl, ap, ◌∙◌, length-append}
use Rattle.std.specs.List.{list_all}
use Rattle.fws_net.specs.declared.condition.Lit.{Lit}
use Rattle.fws_net.specs.declared.outcome.End.{End}
use Rattle.fws_ifcl.specs.declared.diagram.Act.TheVariants as rules
use Rattle.fws_ifcl.specs.declared.diagram.Rule.{Rule}
use Rattle.fws_ifcl.specs.Soundness.{act_ok, rules_ok, chain_ok, ifcl_ok}
use Rattle.fws_ifcl_rules.specs.Right.{RightAmong, RightByParts, RulesAreRightByParts}
use Rattle.fws_ifcl_rules.specs.Rules.{ruled, always}
use Rattle.fws_ifcl_rules.specs.Straight.{is_straight}
use Rattle.fws_join.specs.declared.decision.Decision.{Decision}
use Rattle.fws_pf.specs.declared.config.PfConfig.{PfConfig}
use Rattle.fws_pf.specs.declared.config.PfNat.{PfNat}
use Rattle.fws_pf.specs.declared.config.PfRule.{PfRule}
use Rattle.fws_pf.specs.Walk.{is_met, translations}
use Rattle.fws_pf_ifcl.specs.Blocks.{tagging, writing, translating, translation, width_with, translation_width, translation_widths, translations_from, Order, passing_at_once, holding, filter_rule, met_rule, met_rules, tail_place, rule_of, filter_from, filter_rules}
use Rattle.fws_pf_ifcl.specs.Diagram.{tracking, skipping, translations_place, filter_place, pass_rules, chains_of, drawn_of}
use Rattle.fws_pf_ifcl.proofs.Lengths.{translation_length, first_length, front_length}
use Rattle.fws_pf_ifcl.proofs.Translated.{leaver, changing_by}
use Rattle.fws_pf_ifcl.proofs.Filtering.{rules_by}

-- among so many chains, and in a chain of so many rules
module _ (chains total : ℕ) (right : RightByParts chains total) where
  -- rules of which the first has the place at are right
  abbrev Right : ℕ → List Rule → Type 0
  Right at rules = RightAmong chains total at rules

  -- Translations

  -- what leaves one
  leave_right : (at filter : ℕ) (past : Bool) (test : List Lit) → at < filter → filter ≤ total → Right at (ruled test (leaver past filter) ∷ [])
  leave_right at filter true test lt le = refl
  leave_right at filter false test lt le = right.first at (ruled test (rules.Skip filter)) [] (right.skip at filter lt le) refl

  -- a tag, and what leaves
  tag_right : (at filter : ℕ) (past : Bool) (tag : Option ℕ) → at + length (tagging tag) < filter → filter ≤ total → Right at (tagging tag ++ always (leaver past filter) ∷ [])
  tag_right at filter past None lt le = leave_right at filter past [] (omega (arith, lt)) le
  tag_right at filter past (Some n) lt le =
      right.first at (always (rules.OnlyTag n)) (always (leaver past filter) ∷ []) refl (leave_right (at + 1) filter past [] lt le)

  -- an end
  write_ok : (outward : Bool) (at : ℕ) (e : End) → act_ok chains total at (writing outward e) ≡ true
  write_ok true at e = refl
  write_ok false at e = refl

  -- a translation, by what it changes
  translating_right : (outward : Bool) (at filter : ℕ) (past : Bool) (to : Option End) (tag : Option ℕ) (test : List Lit)
      → at + width_with (changing_by outward to tag) ≤ filter → filter ≤ total → Right at (translating at test (leaver past filter) (changing_by outward to tag))
  translating_right outward at filter past None None test near far = leave_right at filter past test (omega (arith, near)) far
  translating_right outward at filter past None (Some n) test near far =
      right.guarded at test (always (rules.OnlyTag n) ∷ always (leaver past filter) ∷ []) (tag_right (at + 2) filter past (Some n) (omega (arith, near)) far) (omega (arith, near, far))
  translating_right outward at filter past (Some e) tag test near far =
      let others = tagging tag ++ always (leaver past filter) ∷ [] in
      let long : length others ≡ length (tagging tag) + 1 = length-append (tagging tag) (always (leaver past filter) ∷ []) in
      right.guarded at test (always (writing outward e) ∷ others)
      (right.first (at + 2) (always (writing outward e)) others (write_ok outward (at + 2) e) (tag_right ((at + 2) + 1) filter past tag (omega (arith, near)) far))
      (omega (arith, near, far, long))

  -- translations
  translations_right : (outward : Bool) (filter at : ℕ) (nats : List PfNat) → at + translation_widths outward nats ≡ filter → filter ≤ total
      → Right at (translations_from outward filter at nats)
  translations_right outward filter at [] wide le = refl
  translations_right outward filter at (nat ∷ nats) wide le =
      let next = at + translation_width outward nat in
      let here = translation outward filter at nat in
      let more = translations_from outward filter next nats in
      let many : length here ≡ translation_width outward nat = translation_length outward filter at nat in
      right.joined at next here more (omega (arith, many)) (translating_right outward at filter nat.past nat.to nat.tag nat.cond (omega (arith, wide)) le)
      (translations_right outward filter next nats (omega (arith, wide)) le)

  -- Filter rules

  passing_right : (at : ℕ) (test : List Lit) (tag : Option ℕ) → at + length (passing_at_once at test tag) ≤ total → Right at (passing_at_once at test tag)
  passing_right at test None le = refl
  passing_right at test (Some n) le = right.guarded at test (always (rules.OnlyTag n) ∷ always rules.Accept ∷ []) refl le

  holding_right : (at : ℕ) (passes : Bool) (test : List Lit) (tag : Option ℕ) → Right at (holding passes test tag)
  holding_right at passes test None = refl
  holding_right at passes test (Some n) = refl

  rule_right : (at : ℕ) (quick pass : Bool) (test : List Lit) (tag : Option ℕ) → at + length (rules_by quick pass at test tag) ≤ total → Right at (rules_by quick pass at test tag)
  rule_right at true true test tag le = passing_right at test tag le
  rule_right at true false test tag le = refl
  rule_right at false pass test tag le = holding_right at pass test tag

  met_right : (at : ℕ) (met : Bool) (r : PfRule) → at + length (cond met (filter_rule at r) []) ≤ total → Right at (cond met (filter_rule at r) [])
  met_right at true r le = rule_right at r.quick r.pass r.cond r.tag le
  met_right at false r le = refl

  met_rules_right : (outward : Bool) (at : ℕ) (rs : List PfRule) → at + length (met_rules outward at rs) ≤ total → Right at (met_rules outward at rs)
  met_rules_right outward at [] le = refl
  met_rules_right outward at (r ∷ rs) le =
      let here = met_rule outward at r in
      let next = at + length here in
      let more = met_rules outward next rs in
      let many : length (here ++ more) ≡ length here + length more = length-append here more in
      right.joined at next here more refl (met_right at (is_met r.way outward) r (omega (arith, le, many))) (met_rules_right outward next rs (omega (arith, le, many)))

  -- The tail

  -- the rules of decisions
  decision_right : (at : ℕ) (passes : Bool) (test : List Lit) → Right at (ruled test (cond passes rules.Accept rules.Drop) ∷ [])
  decision_right at true test = refl
  decision_right at false test = refl

  decisions_right : (at : ℕ) (all : List Decision) → Right at (map rule_of all)
  decisions_right at [] = refl
  decisions_right at (one ∷ all) =
      right.joined at (at + 1) (rule_of one ∷ []) (map rule_of all) refl (decision_right at one.passes one.cond) (decisions_right (at + 1) all)

  filter_right : (outward : Bool) (at : ℕ) (rs : List PfRule) (tail : List Decision) → at + length (filter_from outward at rs tail) ≤ total
      → Right at (filter_from outward at rs tail)
  filter_right outward at rs tail le =
      let n = tail_place outward rs in
      let ahead = met_rules outward at (take n rs) in
      let last = map rule_of tail in
      let many : length (ahead ++ last) ≡ length ahead + length last = length-append ahead last in
      let next = at + length ahead in
      right.joined at next ahead last refl (met_rules_right outward at (take n rs) (omega (arith, le, many))) (decisions_right next tail)

  last_right : (order : Order) (outward : Bool) (at : ℕ) (rs : List PfRule) → at + length (filter_rules order outward at rs) ≤ total
      → Right at (filter_rules order outward at rs)
  last_right None outward at rs le = met_rules_right outward at rs le
  last_right (Some tails) outward at rs le = filter_right outward at rs (tails outward) le

  -- Passes

  first_right : (outward : Bool) (c : PfConfig) → Right 0 (tracking outward ++ skipping c)
  first_right true c = refl
  first_right false c = refl

  all_right : (order : Order) (outward : Bool) (c : PfConfig) → length (pass_rules order outward c) ≤ total → Right 0 (pass_rules order outward c)
  all_right order outward c le =
      let first = tracking outward ++ skipping c in
      let nats = translations c outward in
      let place = translations_place outward in
      let filter = filter_place outward c in
      let middle = translations_from outward filter place nats in
      let last = filter_rules order outward filter c.filter in
      let few : length first ≡ place = first_length outward c in
      let front : length (first ++ middle) ≡ filter = front_length outward c in
      let all : length (pass_rules order outward c) ≡ length (first ++ middle) + length last = length-append (first ++ middle) last in
      right.joined 0 filter (first ++ middle) last (omega (arith, front))
      (right.joined 0 place first middle (omega (arith, few)) (first_right outward c)
      (translations_right outward filter place nats refl (omega (arith, le, front, all))))
      (last_right order outward filter c.filter (omega (arith, le, front, all)))

-- the rules of a pass are right among any number of chains
rules_right : (law : RulesAreRightByParts) (chains : ℕ) (order : Order) (outward : Bool) (c : PfConfig)
    → rules_ok chains (length (pass_rules order outward c)) 0 (pass_rules order outward c) ≡ true
rules_right law chains order outward c =
    let total = length (pass_rules order outward c) in
    all_right chains total (law chains total) order outward c (omega arith)

-- so are those of both passes
both_right : (law : RulesAreRightByParts) (chains : ℕ) (order : Order) (c : PfConfig) → list_all (chain_ok chains) (chains_of order c) ≡ true
both_right law chains order c =
    ap (λ b. b && (rules_ok chains (length (pass_rules order true c)) 0 (pass_rules order true c) && true)) (rules_right law chains order false c)
    ∙ ap (λ b. b && true) (rules_right law chains order true c)

-- every number in the diagram is right
pub diagram_ok : (law : RulesAreRightByParts) (order : Order) (c : PfConfig) → ifcl_ok (drawn_of order c) ≡ true
diagram_ok law order c = ap (λ b. b && true && true && true && true) (both_right law 2 order c)

-- no rule names a chain
pub diagram_straight : (law : RulesAreRightByParts) (order : Order) (c : PfConfig) → is_straight (drawn_of order c) ≡ true
diagram_straight law order c = both_right law 0 order c
