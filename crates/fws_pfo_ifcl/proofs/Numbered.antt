-- Each skip of the diagram goes forward, to at most one past the last rule.
use Rattle.std.proofs.Common.{◌≡◌, ℕ, suc, ◌+◌, ◌≤◌, Bool, true, false, cond, ◌&&◌, ◌||◌, Option, Some, is_some, List, [], ◌∷◌, ◌++◌, length, map, arith, refl, sym, ap, ◌∙◌, subst, length-append}
use Rattle.std.specs.List.{list_all}
use Rattle.std.proofs.lemmas.Bool.{false≢true, and_parts}
use Rattle.fws_net.specs.declared.condition.Lit.{Lit}
use Rattle.fws_net.specs.declared.outcome.End.{End}
use Rattle.fws_ifcl.specs.declared.diagram.Act.{Act}
use Rattle.fws_ifcl.specs.declared.diagram.Act.TheVariants as acts
use Rattle.fws_ifcl.specs.declared.diagram.Rule.{Rule}
use Rattle.fws_ifcl.specs.Soundness.{act_ok, rules_ok, chain_ok, ifcl_ok}
use Rattle.fws_ifcl_rules.specs.Right.{RightAmong, RightByParts, RulesAreRightByParts}
use Rattle.fws_ifcl_rules.specs.Rules.{ruled, always, guarded}
use Rattle.fws_ifcl_rules.specs.Straight.{is_straight}
use Rattle.fws_pf.specs.Walk.{is_met}
use Rattle.fws_pfo.specs.declared.config.PfoConfig.{PfoConfig}
use Rattle.fws_pfo.specs.declared.config.PfoKind.{PfoKind}
use Rattle.fws_pfo.specs.declared.config.PfoKind.TheVariants.{Pass, Block, Match}
use Rattle.fws_pfo.specs.declared.config.PfoRule.{PfoRule}
use Rattle.fws_pfo_ifcl.specs.declared.frame.Frame.{Frame}
use Rattle.fws_pfo_ifcl.specs.declared.ruling.Ruling.{Ruling}
use Rattle.fws_pfo_ifcl.specs.Blocks.{writing, only_tag, changes, decision, ending, acting, is_hold, met_rule, met_rules, head_of, ruling_rules, tail_rules, held_rule, held_rules, ahead_rules, filter_rules}
use Rattle.fws_pfo_ifcl.specs.Diagram.{tracking, skipping, clearing, larger, frame_of, front_rules, pass_rules, chains_of, drawn_of}
use Rattle.fws_pfo_ifcl.specs.Ends.{end_of}
use Rattle.fws_pfo_ifcl.specs.Held.{bits_of, telling, told}
use Rattle.fws_pfo_ifcl.proofs.Acts.{is_change, are_changes, behind_guard, changes_append, taggings_change}
use Rattle.fws_pfo_ifcl.proofs.Filtering.{all_changes}
use Rattle.fws_pfo_ifcl.proofs.Shown.{writing_changes, only_changes}
use Rattle.fws_pfo_ifcl.proofs.Tags.{telling_tags}

-- Acts that name no place

abbrev names_none : Act → Bool
names_none (acts.Call c) = false
names_none (acts.Goto c) = false
names_none (acts.Skip to) = false
names_none _ = true

change_names_none : (act : Act) → is_change act ≡ true → names_none act ≡ true
change_names_none (acts.Hold accepts) is = refl
change_names_none (acts.Src e) is = refl
change_names_none (acts.Dst e) is = refl
change_names_none (acts.AddTag n) is = refl
change_names_none (acts.OnlyTag n) is = refl
change_names_none (acts.DelTag n) is = refl
change_names_none _ is = absurd (false≢true is)

changes_name_none : (list : List Act) → are_changes list ≡ true → list_all names_none list ≡ true
changes_name_none [] all = refl
changes_name_none (act ∷ list) all =
    let both = and_parts (is_change act) (are_changes list) all in
    ap (λ b. b && list_all names_none list) (change_names_none act both.0) ∙ changes_name_none list both.1

accepts_name_none : (list : List Act) → are_changes list ≡ true → list_all names_none (list ++ acts.Accept ∷ []) ≡ true
accepts_name_none [] all = refl
accepts_name_none (act ∷ list) all =
    let both = and_parts (is_change act) (are_changes list) all in
    ap (λ b. b && list_all names_none (list ++ acts.Accept ∷ [])) (change_names_none act both.0) ∙ accepts_name_none list both.1

-- all acts of rules are such
decision_none : (outward : Bool) (to : Option End) (passes : Bool) → list_all names_none (decision outward to passes) ≡ true
decision_none outward to true = accepts_name_none (writing outward to) (writing_changes outward to)
decision_none outward to false = refl

ending_none : (f : Frame) (tag : Option ℕ) (to : Option End) (kind : PfoKind) → list_all names_none (ending f tag to kind) ≡ true
ending_none f tag to Pass =
    accepts_name_none (only_tag tag ++ writing f.outward to)
    (changes_append (only_tag tag) (writing f.outward to) (only_changes tag) (writing_changes f.outward to))
ending_none f tag to Block = refl
ending_none f tag to Match = refl

acts_none : (f : Frame) (may quick : Bool) (tag : Option ℕ) (to : Option End) (kind : PfoKind)
    → list_all names_none (cond quick (ending f tag to kind) (changes f may tag to kind)) ≡ true
acts_none f may true tag to kind = ending_none f tag to kind
acts_none f may false tag to kind = changes_name_none (changes f may tag to kind) (all_changes f may tag to kind)

-- Among so many chains, and in a chain of so many rules

module _ (chains total : ℕ) (right : RightByParts chains total) where
  -- rules of which the first has the place at are right
  abbrev Right : ℕ → List Rule → Type 0
  Right at rules = RightAmong chains total at rules

  act_right : (at : ℕ) (act : Act) → names_none act ≡ true → act_ok chains total at act ≡ true
  act_right at acts.Accept is = refl
  act_right at acts.Drop is = refl
  act_right at (acts.Hold accepts) is = refl
  act_right at acts.Return is = refl
  act_right at (acts.Src e) is = refl
  act_right at (acts.Dst e) is = refl
  act_right at acts.RecSrc is = refl
  act_right at acts.RecDst is = refl
  act_right at (acts.AddTag n) is = refl
  act_right at (acts.OnlyTag n) is = refl
  act_right at (acts.DelTag n) is = refl
  act_right at _ is = absurd (false≢true is)

  always_right : (at : ℕ) (list : List Act) → list_all names_none list ≡ true → Right at (map always list)
  always_right at [] all = refl
  always_right at (act ∷ list) all =
      let both = and_parts (names_none act) (list_all names_none list) all in
      right.first at (always act) (map always list) (act_right at act both.0) (always_right (at + 1) list both.1)

  acting_right : (at : ℕ) (test : List Lit) (list : List Act) → list_all names_none list ≡ true → at + length (acting at test list) ≤ total → Right at (acting at test list)
  acting_right at test [] all le = refl
  acting_right at test (act ∷ []) all le =
      right.first at (ruled test act) [] (act_right at act (and_parts (names_none act) true all).0) refl
  acting_right at test (act ∷ next ∷ []) all le = by (is_hold act) le
    where
      by : (b : Bool) → at + length (cond b (ruled test act ∷ ruled test next ∷ []) (guarded at test (map always (act ∷ next ∷ [])))) ≤ total
          → Right at (cond b (ruled test act ∷ ruled test next ∷ []) (guarded at test (map always (act ∷ next ∷ []))))
      by true le =
          let both = and_parts (names_none act) (names_none next && true) all in
          right.first at (ruled test act) (ruled test next ∷ []) (act_right at act both.0)
          (right.first (at + 1) (ruled test next) [] (act_right (at + 1) next (and_parts (names_none next) true both.1).0) refl)
      by false le =
          let inner = map always (act ∷ next ∷ []) in
          right.guarded at test inner (always_right (at + 2) (act ∷ next ∷ []) all) (subst (λ n. n ≤ total) (sym (behind_guard at (length inner))) le)
  acting_right at test (act ∷ next ∷ third ∷ list) all le =
      let inner = map always (act ∷ next ∷ third ∷ list) in
      right.guarded at test inner (always_right (at + 2) (act ∷ next ∷ third ∷ list) all) (subst (λ n. n ≤ total) (sym (behind_guard at (length inner))) le)

  -- Rules in their order

  met_right : (f : Frame) (may met quick : Bool) (at : ℕ) (tag : Option ℕ) (to : Option End) (kind : PfoKind) (test : List Lit)
      → at + length (cond met (acting at test (cond quick (ending f tag to kind) (changes f may tag to kind))) []) ≤ total
      → Right at (cond met (acting at test (cond quick (ending f tag to kind) (changes f may tag to kind))) [])
  met_right f may true quick at tag to kind test le =
      acting_right at test (cond quick (ending f tag to kind) (changes f may tag to kind)) (acts_none f may quick tag to kind) le
  met_right f may false quick at tag to kind test le = refl

  met_rules_right : (f : Frame) (may : Bool) (at : ℕ) (rs : List PfoRule) → at + length (met_rules f may at rs) ≤ total → Right at (met_rules f may at rs)
  met_rules_right f may at [] le = refl
  met_rules_right f may at (r ∷ rs) le =
      let here = met_rule f may at r in
      let place = at + length here in
      let later = may || is_some (end_of f.outward r) in
      let rest = met_rules f later place rs in
      let many : length (here ++ rest) ≡ length here + length rest = length-append here rest in
      right.joined at place here rest refl
      (met_right f may (is_met r.way f.outward) r.quick at r.tag r.to r.kind r.cond (omega (arith, le, many))) (met_rules_right f later place rs (omega (arith, le, many)))

  -- The tail

  tail_right : (outward : Bool) (at : ℕ) (all : List Ruling) → at + length (tail_rules outward at all) ≤ total → Right at (tail_rules outward at all)
  tail_right outward at [] le = refl
  tail_right outward at (one ∷ all) le =
      let here = ruling_rules outward at one in
      let place = at + length here in
      let rest = tail_rules outward place all in
      let many : length (here ++ rest) ≡ length here + length rest = length-append here rest in
      right.joined at place here rest refl
      (acting_right at one.cond (decision outward one.to one.passes) (decision_none outward one.to one.passes) (omega (arith, le, many)))
      (tail_right outward place all (omega (arith, le, many)))

  -- Ends that are held

  held_right : (f : Frame) (at n : ℕ) (ends : List End) → at + length (held_rules f at n ends) ≤ total → Right at (held_rules f at n ends)
  held_right f at n [] le = refl
  held_right f at n (e ∷ ends) le =
      let here = held_rule f at n e in
      let place = at + length here in
      let rest = held_rules f place (suc n) ends in
      let many : length (here ++ rest) ≡ length here + length rest = length-append here rest in
      right.joined at place here rest refl
      (acting_right at (told f.tags (bits_of f.bits n)) (decision f.outward (Some e) true) (decision_none f.outward (Some e) true) (omega (arith, le, many)))
      (held_right f place (suc n) ends (omega (arith, le, many)))

  -- Passes

  filter_right : (f : Frame) (at : ℕ) (rs : List PfoRule) (tail : List Ruling) → at + length (filter_rules f at rs tail) ≤ total → Right at (filter_rules f at rs tail)
  filter_right f at rs tail le =
      let ahead = ahead_rules f at rs in
      let place = at + length ahead in
      let middle = tail_rules f.outward place tail in
      let later = at + length (ahead ++ middle) in
      let last = held_rules f later 1 f.ends in
      let many : length (ahead ++ middle) ≡ length ahead + length middle = length-append ahead middle in
      let all : length (ahead ++ middle ++ last) ≡ length (ahead ++ middle) + length last = length-append (ahead ++ middle) last in
      right.joined at later (ahead ++ middle) last refl
      (right.joined at place ahead middle refl (met_rules_right f false at (head_of f.outward rs) (omega (arith, le, many, all)))
      (tail_right f.outward place tail (omega (arith, le, many, all))))
      (held_right f later 1 f.ends (omega (arith, le, all)))

  clearing_right : (outward : Bool) (c : PfoConfig) (at : ℕ) → Right at (clearing outward c)
  clearing_right false c at = refl
  clearing_right true c at =
      let list = telling (length c.tags) (bits_of (larger (frame_of false c).bits (frame_of true c).bits) 0) in
      always_right at list (changes_name_none list (taggings_change list (telling_tags (length c.tags) (bits_of (larger (frame_of false c).bits (frame_of true c).bits) 0))))

  first_right : (outward : Bool) (c : PfoConfig) → Right 0 (tracking outward ++ skipping c)
  first_right true c = refl
  first_right false c = refl

  all_right : (tails : Bool → List Ruling) (outward : Bool) (c : PfoConfig) → length (pass_rules tails outward c) ≤ total → Right 0 (pass_rules tails outward c)
  all_right tails outward c le =
      let first = tracking outward ++ skipping c in
      let clear = clearing outward c in
      let place = length first in
      let at = length (front_rules outward c) in
      let f = frame_of outward c in
      let rules = filter_rules f at c.rules (tails outward) in
      let long : length (first ++ clear ++ rules) ≡ at + length rules = length-append (first ++ clear) rules in
      right.joined 0 at (first ++ clear) rules (omega arith)
      (right.joined 0 place first clear (omega arith) (first_right outward c) (clearing_right outward c place))
      (filter_right f at c.rules (tails outward) (omega (arith, le, long)))

-- the rules of a pass are right among any number of chains
rules_right : (law : RulesAreRightByParts) (chains : ℕ) (tails : Bool → List Ruling) (outward : Bool) (c : PfoConfig)
    → rules_ok chains (length (pass_rules tails outward c)) 0 (pass_rules tails outward c) ≡ true
rules_right law chains tails outward c =
    let total = length (pass_rules tails outward c) in
    all_right chains total (law chains total) tails outward c (omega arith)

-- so are those of both passes
both_right : (law : RulesAreRightByParts) (chains : ℕ) (tails : Bool → List Ruling) (c : PfoConfig) → list_all (chain_ok chains) (chains_of tails c) ≡ true
both_right law chains tails c =
    ap (λ b. b && (rules_ok chains (length (pass_rules tails true c)) 0 (pass_rules tails true c) && true)) (rules_right law chains tails false c)
    ∙ ap (λ b. b && true) (rules_right law chains tails true c)

-- every number in the diagram is right
pub diagram_ok : (law : RulesAreRightByParts) (tails : Bool → List Ruling) (c : PfoConfig) → ifcl_ok (drawn_of tails c) ≡ true
diagram_ok law tails c = ap (λ b. b && true && true && true && true) (both_right law 2 tails c)

-- no rule names a chain
pub diagram_straight : (law : RulesAreRightByParts) (tails : Bool → List Ruling) (c : PfoConfig) → is_straight (drawn_of tails c) ≡ true
diagram_straight law tails c = both_right law 0 tails c
