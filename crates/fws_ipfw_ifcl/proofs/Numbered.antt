-- Each skip of the diagram goes forward, to at most one past the last rule.
use Rattle.std.proofs.Common.{◌≡◌, ℕ, suc, ◌+◌, ◌*◌, ◌<◌, ◌≤◌, Bool, true, false, cond, ◌&&◌, not, nat_lt, Option, Some, None, List, [], ◌∷◌, ◌++◌, length, arith, refl, sym, ap, ◌∙◌, subst, length-append}
use Rattle.std.proofs.lemmas.Bool.{false≢true, cond-true}
use Rattle.std.specs.List.{list_any}
use Rattle.fws_net.specs.declared.condition.Lit.{Lit}
use Rattle.fws_net.specs.declared.condition.Test.TheVariants as tests
use Rattle.fws_net.specs.declared.site.Site.{Site}
use Rattle.fws_ifcl.specs.declared.diagram.Act.TheVariants as rules
use Rattle.fws_ifcl.specs.declared.diagram.Rule.{Rule}
use Rattle.fws_ifcl.specs.Soundness.{act_ok, rules_ok, ifcl_ok}
use Rattle.fws_rules.specs.Literals.{positive, negative}
use Rattle.fws_ifcl_rules.specs.Right.{RightAmong, RightByParts, RulesAreRightByParts}
use Rattle.fws_ifcl_rules.specs.Rules.{ruled, always, guarded}
use Rattle.fws_ifcl_rules.specs.Straight.{is_straight}
use Rattle.fws_ipfw.specs.declared.config.IpfwAct.{IpfwAct}
use Rattle.fws_ipfw.specs.declared.config.IpfwAct.TheVariants as acts
use Rattle.fws_ipfw.specs.declared.config.IpfwTag.{IpfwTag}
use Rattle.fws_ipfw.specs.declared.config.IpfwTag.TheVariants as tags
use Rattle.fws_ipfw.specs.declared.config.IpfwRule.{IpfwRule}
use Rattle.fws_ipfw.specs.declared.config.IpfwConfig.{IpfwConfig}
use Rattle.fws_ipfw.specs.declared.config.IpfwNat.{IpfwNat}
use Rattle.fws_ipfw.specs.declared.config.Redirect.{Redirect}
use Rattle.fws_ipfw.specs.Walk.{nat_numbered}
use Rattle.fws_ipfw_ifcl.specs.Translating.{by_trial, asking, writing, aliasing, aliasing_width, choosing_all, writing_all, redirecting, redirecting_width, tracking, translating, translating_width}
use Rattle.fws_ipfw_ifcl.specs.Blocks.{accepting, acting, acting_width, tagging_first, tagging_width, keeping, keeping_width, block, width, widths, place_from, skipping_to, place_behind, blocks}
use Rattle.fws_ipfw_ifcl.specs.Diagram.{translates, goes_on, second_width, second_place, ending_place, ending, half, second_half, all_rules, diagram_of}
use Rattle.fws_ipfw_ifcl.proofs.Lengths.{choosing_length, aliasing_length, redirecting_length, translating_length, acting_length, keeping_length, block_length, blocks_length}
use Rattle.fws_ipfw_ifcl.proofs.Halves.{place_later, second_length, or_parts}

-- among so many chains, and in a chain of so many rules
module _ (chains total : ℕ) (right : RightByParts chains total) where
  -- rules of which the first has the place at are right
  abbrev Right : ℕ → List Rule → Type 0
  Right at rules = RightAmong chains total at rules

  -- Translating

  -- the rules that choose
  choosing_right : (out : Bool) (at to : ℕ) (rs : List Redirect) → at + length rs ≤ to → to + 2 * length rs ≤ total → Right at (choosing_all out to rs)
  choosing_right out at to [] near far = refl
  choosing_right out at to (r ∷ rs) near far =
      right.first at (ruled (asking out r) (rules.Skip to)) (choosing_all out (to + 2) rs) (right.skip at to (omega (arith, near)) (omega (arith, far)))
      (choosing_right out (at + 1) (to + 2) rs (omega (arith, near)) (omega (arith, far)))

  -- a rule that writes
  write_ok : (out : Bool) (at : ℕ) (r : Redirect) → act_ok chains total at (writing out r) ≡ true
  write_ok true at r = refl
  write_ok false at r = refl

  -- the rules that write
  writing_right : (out : Bool) (at done : ℕ) (rs : List Redirect) → at + 2 * length rs ≤ done → done ≤ total → Right at (writing_all out done rs)
  writing_right out at done [] near far = refl
  writing_right out at done (r ∷ rs) near far =
      right.first at (always (writing out r)) (always (rules.Skip done) ∷ writing_all out done rs) (write_ok out at r)
      (right.first (at + 1) (always (rules.Skip done)) (writing_all out done rs) (right.skip (at + 1) done (omega (arith, near)) far)
      (writing_right out ((at + 1) + 1) done rs (omega (arith, near)) far))

  -- the rules for the alias
  aliasing_right : (out : Bool) (alias at : ℕ) → Right at (aliasing out alias)
  aliasing_right true alias at = refl
  aliasing_right false alias at = refl

  -- the rules for redirects and for the alias
  redirecting_right : (out : Bool) (alias at done : ℕ) (rs : List Redirect) → at + redirecting_width out rs ≤ done → done ≤ total → Right at (redirecting out alias at done rs)
  redirecting_right out alias at done rs near far =
      let to = at + (length rs + (aliasing_width out + 1)) in
      let choices = choosing_all out to rs in
      let middle = aliasing out alias in
      let writes = writing_all out done rs in
      let last = always (rules.Skip done) in
      let many : length choices ≡ length rs = choosing_length out to rs in
      let few : length middle ≡ aliasing_width out = aliasing_length out alias in
      let all : length (choices ++ middle) ≡ length choices + length middle = length-append choices middle in
      let place : (at + length (choices ++ middle)) + 1 ≡ to = omega (arith, many, few, all) in
      right.joined at (at + length (choices ++ middle)) (choices ++ middle) (last ∷ writes) refl
      (right.joined at (at + length choices) choices middle refl (choosing_right out at to rs (omega arith) (omega (arith, near, far))) (aliasing_right out alias (at + length choices)))
      (right.first (at + length (choices ++ middle)) last writes (right.skip (at + length (choices ++ middle)) done (omega (arith, place, near)) far)
      (subst (λ n. Right n writes) (sym place) (writing_right out to done rs (omega (arith, near)) far)))

  -- the rules for packets of connections
  tracking_right : (at done outwards : ℕ) → at + 4 ≤ done → done ≤ total → at + 4 ≤ outwards → outwards ≤ total → Right at (tracking done outwards)
  tracking_right at done outwards near far out out_far =
      let third = ruled (positive tests.Est ∷ []) (rules.Skip done) in
      let fourth = ruled (positive tests.Outward ∷ []) (rules.Skip outwards) in
      right.first at (ruled (negative tests.Outward ∷ []) rules.RecDst) (ruled (positive tests.Outward ∷ []) rules.RecSrc ∷ third ∷ fourth ∷ []) refl
      (right.first (at + 1) (ruled (positive tests.Outward ∷ []) rules.RecSrc) (third ∷ fourth ∷ []) refl
      (right.first ((at + 1) + 1) third (fourth ∷ []) (right.skip ((at + 1) + 1) done (omega (arith, near)) far)
      (right.first (((at + 1) + 1) + 1) fourth [] (right.skip (((at + 1) + 1) + 1) outwards (omega (arith, out)) out_far) refl)))

  -- the rules of an instance, or of none
  translating_right : (at done : ℕ) (nat : Option IpfwNat) → at + translating_width nat ≤ done → done ≤ total → Right at (translating at done nat)
  translating_right at done None near far = right.first at (always (rules.Skip done)) [] (right.skip at done (omega (arith, near)) far) refl
  translating_right at done (Some nat) near far =
      let rs = by_trial nat.redirects in
      let outwards = at + (4 + redirecting_width false rs) in
      let tracks = tracking done outwards in
      let inner = redirecting false nat.alias (at + 4) done rs in
      let outer = redirecting true nat.alias outwards done rs in
      let wide : length inner ≡ redirecting_width false rs = redirecting_length false nat.alias (at + 4) done rs in
      let all : length (tracks ++ inner) ≡ 4 + length inner = length-append tracks inner in
      right.joined at outwards (tracks ++ inner) outer (omega (arith, wide, all))
      (right.joined at (at + 4) tracks inner refl (tracking_right at done outwards (omega (arith, near)) far (omega arith) (omega (arith, near, far)))
      (redirecting_right false nat.alias (at + 4) done rs (omega (arith, near)) far))
      (redirecting_right true nat.alias outwards done rs (omega (arith, near)) far)

  -- Acts

  -- where a pass ends accepted
  abbrev EndsWithin : Bool → ℕ → ℕ → Type 0
  EndsWithin true ends past = Unit {0}
  EndsWithin false ends past = (past ≤ ends) × (ends ≤ total)

  -- where a rule skips to
  abbrev SkipsWithin : IpfwAct → ℕ → ℕ → Type 0
  SkipsWithin (acts.Skip n) to past = (past ≤ to) × (to ≤ total)
  SkipsWithin _ to past = Unit {0}

  -- where a pass goes on behind a translation
  abbrev TranslatesWithin : Bool → IpfwAct → ℕ → ℕ → Type 0
  TranslatesWithin false (acts.Nat n) done past = (past ≤ done) × (done ≤ total)
  TranslatesWithin translated _ done past = Unit {0}

  record Within (translated : Bool) (ends done to past : ℕ) (act : IpfwAct) : Type 0 where
    pub here : past ≤ total
    pub ending : EndsWithin translated ends past
    pub skipping : SkipsWithin act to past
    pub translating : TranslatesWithin translated act done past

  -- a pass ends accepted
  accepting_ok : (translated : Bool) (ends at past : ℕ) → EndsWithin translated ends past → at < past → act_ok chains total at (accepting translated ends) ≡ true
  accepting_ok true ends at past ending lt = refl
  accepting_ok false ends at past (near, far) lt = right.skip at ends (omega (arith, near, lt)) far

  -- one rule
  one_right : (at : ℕ) (r : Rule) → act_ok chains total at r.act ≡ true → Right at (r ∷ [])
  one_right at r ok = right.first at r [] ok refl

  -- the rules of an act
  acting_right : (nats : List IpfwNat) (translated : Bool) (ends done to at past : ℕ) (test : List Lit) (act : IpfwAct) → Within translated ends done to past act
      → at + acting_width nats translated act ≡ past → Right at (acting nats translated ends done to at test act)
  acting_right nats true ends done to at past test acts.Allow within is = one_right at (ruled test rules.Accept) refl
  acting_right nats false ends done to at past test acts.Allow within is =
      one_right at (ruled test (rules.Skip ends)) (accepting_ok false ends at past within.ending (omega (arith, is)))
  acting_right nats translated ends done to at past test acts.Deny within is = one_right at (ruled test rules.Drop) refl
  acting_right nats true ends done to at past test acts.Count within is =
      let far : past ≤ total = within.here in
      one_right at (ruled test (rules.Skip (at + 1))) (right.skip at (at + 1) (omega arith) (omega (arith, is, far)))
  acting_right nats false ends done to at past test acts.Count within is =
      let far : past ≤ total = within.here in
      one_right at (ruled test (rules.Skip (at + 1))) (right.skip at (at + 1) (omega arith) (omega (arith, is, far)))
  acting_right nats true ends done to at past test (acts.Skip n) within is =
      let near : past ≤ to = within.skipping.0 in
      one_right at (ruled test (rules.Skip to)) (right.skip at to (omega (arith, is, near)) within.skipping.1)
  acting_right nats false ends done to at past test (acts.Skip n) within is =
      let near : past ≤ to = within.skipping.0 in
      one_right at (ruled test (rules.Skip to)) (right.skip at to (omega (arith, is, near)) within.skipping.1)
  acting_right nats true ends done to at past test acts.Check within is = one_right at (ruled (test ++ positive tests.Est ∷ []) rules.Accept) refl
  acting_right nats false ends done to at past test acts.Check within is =
      one_right at (ruled (test ++ positive tests.Est ∷ []) (rules.Skip ends)) (accepting_ok false ends at past within.ending (omega (arith, is)))
  acting_right nats true ends done to at past test (acts.Nat n) within is =
      let far : past ≤ total = within.here in
      one_right at (ruled test (rules.Skip (at + 1))) (right.skip at (at + 1) (omega arith) (omega (arith, is, far)))
  acting_right nats false ends done to at past test (acts.Nat n) within is =
      let nat = nat_numbered n nats in
      let inner = translating (at + 2) done nat in
      let wide : length inner ≡ translating_width nat = translating_length (at + 2) done nat in
      let far : past ≤ total = within.here in
      let near : past ≤ done = within.translating.0 in
      right.guarded at test inner (translating_right (at + 2) done nat (omega (arith, is, near)) within.translating.1) (omega (arith, is, far, wide))

  -- a change where the condition holds, and the act behind it
  tagged_right : (nats : List IpfwNat) (translated : Bool) (ends done to at past : ℕ) (test : List Lit) (act : IpfwAct) (change : Rule)
      → ((at : ℕ) → act_ok chains total at change.act ≡ true) → Within translated ends done to past act
      → at + (3 + acting_width nats translated act) ≡ past → Right at (guarded at test ((change ∷ []) ++ acting nats translated ends done to (at + 3) [] act))
  tagged_right nats translated ends done to at past test act change ok within is =
      let more = acting nats translated ends done to (at + 3) [] act in
      let many : length more ≡ acting_width nats translated act = acting_length nats translated ends done to (at + 3) [] act in
      let far : past ≤ total = within.here in
      let next : at + 3 ≡ (at + 2) + 1 = omega arith in
      right.guarded at test (change ∷ more)
      (right.first (at + 2) change more (ok (at + 2))
      (subst (λ n. Right n more) next (acting_right nats translated ends done to (at + 3) past [] act within (omega (arith, is)))))
      (omega (arith, is, many, far))

  -- a tag, and the act behind it
  tagging_right : (nats : List IpfwNat) (translated : Bool) (ends done to at past : ℕ) (test : List Lit) (act : IpfwAct) (tag : IpfwTag) → Within translated ends done to past act
      → at + (tagging_width tag + acting_width nats translated act) ≡ past → Right at (tagging_first nats translated ends done to at test act tag)
  tagging_right nats translated ends done to at past test act tags.Nothing within is = acting_right nats translated ends done to at past test act within (omega (arith, is))
  tagging_right nats translated ends done to at past test act (tags.Add n) within is =
      tagged_right nats translated ends done to at past test act (always (rules.AddTag n)) (λ at. refl) within is
  tagging_right nats translated ends done to at past test act (tags.Remove n) within is =
      tagged_right nats translated ends done to at past test act (always (rules.DelTag n)) (λ at. refl) within is

  -- a rule that keeps state
  keeping_right : (keep translated : Bool) (ends at past : ℕ) → EndsWithin translated ends past → at + keeping_width keep ≤ past → Right at (keeping keep translated ends)
  keeping_right true translated ends at past ending le =
      one_right at (ruled (positive tests.Est ∷ []) (accepting translated ends)) (accepting_ok translated ends at past ending (omega (arith, le)))
  keeping_right false translated ends at past ending le = refl

  -- the rules of a rule
  block_right : (nats : List IpfwNat) (translated : Bool) (ends done to at past : ℕ) (r : IpfwRule) → Within translated ends done to past r.act
      → at + width nats translated r ≡ past → Right at (block nats translated ends done to at r)
  block_right nats translated ends done to at past r within is =
      let kept = keeping r.keep translated ends in
      let here = at + keeping_width r.keep in
      let inner = tagging_first nats translated ends done to here r.cond r.act r.tag in
      let wide : length kept ≡ keeping_width r.keep = keeping_length r.keep translated ends in
      right.joined at here kept inner (omega (arith, wide)) (keeping_right r.keep translated ends at past within.ending (omega (arith, is)))
      (tagging_right nats translated ends done to here past r.cond r.act r.tag within (omega (arith, is)))

  -- Halves

  -- where a pass goes on behind each translation
  abbrev Onwards : List IpfwNat → Bool → Bool → ℕ → ℕ → ℕ → List IpfwRule → Type 0
  Onwards nats one_pass translated ends past other [] = Unit {0}
  Onwards nats one_pass translated ends past other (r ∷ rs) =
      TranslatesWithin translated r.act (place_behind one_pass ends (other + width nats true r)) past × Onwards nats one_pass translated ends past (other + width nats true r) rs

  -- the ends lie behind each place ahead of one ahead of them
  ending_earlier : (translated : Bool) (ends a b : ℕ) → EndsWithin translated ends b → a ≤ b → EndsWithin translated ends a
  ending_earlier true ends a b ending le = tt
  ending_earlier false ends a b (near, far) le = (omega (arith, near, le), far)

  -- so does the place behind a translation
  translating_earlier : (translated : Bool) (act : IpfwAct) (done a b : ℕ) → TranslatesWithin translated act done b → a ≤ b → TranslatesWithin translated act done a
  translating_earlier false (acts.Nat n) done a b (near, far) le = (omega (arith, near, le), far)
  translating_earlier true act done a b on le = tt
  translating_earlier false acts.Allow done a b on le = tt
  translating_earlier false acts.Deny done a b on le = tt
  translating_earlier false acts.Count done a b on le = tt
  translating_earlier false acts.Check done a b on le = tt
  translating_earlier false (acts.Skip n) done a b on le = tt

  -- a place by a test, from above
  placed : (b : Bool) (x y z : ℕ) → x ≤ z → y ≤ z → cond b x y ≤ z
  placed true x y z first second = first
  placed false x y z first second = second

  -- no rule stands behind the last one
  place_within : (nats : List IpfwNat) (translated : Bool) (at past : ℕ) (rs : List IpfwRule) (n : ℕ) → at + widths nats translated rs ≡ past → place_from nats translated at rs n ≤ past
  place_within nats translated at past [] n is = omega (arith, is)
  place_within nats translated at past (r ∷ rs) n is =
      placed (nat_lt r.number n) (place_from nats translated (at + width nats translated r) rs n) at past
      (place_within nats translated (at + width nats translated r) past rs n (omega (arith, is))) (omega (arith, is))

  -- a rule skips to a place of its half
  skips_within : (nats : List IpfwNat) (translated : Bool) (at past : ℕ) (rs : List IpfwRule) (act : IpfwAct) → at + widths nats translated rs ≡ past → past ≤ total
      → SkipsWithin act (skipping_to nats translated at rs act) at
  skips_within nats translated at past rs (acts.Skip n) is le =
      let far : place_from nats translated at rs n ≤ past = place_within nats translated at past rs n is in
      (place_later nats translated at rs n, omega (arith, far, le))
  skips_within nats translated at past rs acts.Allow is le = tt
  skips_within nats translated at past rs acts.Deny is le = tt
  skips_within nats translated at past rs acts.Count is le = tt
  skips_within nats translated at past rs acts.Check is le = tt
  skips_within nats translated at past rs (acts.Nat n) is le = tt

  -- the rules of a half
  blocks_right : (nats : List IpfwNat) (one_pass translated : Bool) (ends past at other : ℕ) (rs : List IpfwRule) → at + widths nats translated rs ≡ past → past ≤ total
      → EndsWithin translated ends past → Onwards nats one_pass translated ends past other rs → Right at (blocks nats one_pass translated ends at other rs)
  blocks_right nats one_pass translated ends past at other [] is le ending on = refl
  blocks_right nats one_pass translated ends past at other (r ∷ rs) is le ending on =
      let next = at + width nats translated r in
      let done = place_behind one_pass ends (other + width nats true r) in
      let to = skipping_to nats translated next rs r.act in
      let here = block nats translated ends done to at r in
      let more = blocks nats one_pass translated ends next (other + width nats true r) rs in
      let many : length here ≡ width nats translated r = block_length nats translated ends done to at r in
      let left : next + widths nats translated rs ≡ past = omega (arith, is) in
      let before : next ≤ past = omega (arith, left) in
      right.joined at next here more (omega (arith, many))
      (block_right nats translated ends done to at next r (record {
        here = omega (arith, before, le);
        ending = ending_earlier translated ends next past ending before;
        skipping = skips_within nats translated next past rs r.act left le;
        translating = translating_earlier translated r.act done next past on.0 before;
      }) refl)
      (blocks_right nats one_pass translated ends past next (other + width nats true r) rs left le ending on.1)

  -- Behind translations

  -- no rule of the second half translates
  second_onwards : (nats : List IpfwNat) (one_pass : Bool) (ends past other : ℕ) (rs : List IpfwRule) → Onwards nats one_pass true ends past other rs
  second_onwards nats one_pass ends past other [] = tt
  second_onwards nats one_pass ends past other (r ∷ rs) = (tt, second_onwards nats one_pass ends past (other + width nats true r) rs)

  -- a translation of the first half
  first_within : (act : IpfwAct) (done past : ℕ) → (translates act ≡ true → (past ≤ done) × (done ≤ total)) → TranslatesWithin false act done past
  first_within (acts.Nat n) done past on = on refl
  first_within acts.Allow done past on = tt
  first_within acts.Deny done past on = tt
  first_within acts.Count done past on = tt
  first_within acts.Check done past on = tt
  first_within (acts.Skip n) done past on = tt

  -- a pass ends behind a translation
  once_onwards : (nats : List IpfwNat) (ends past other : ℕ) (rs : List IpfwRule) → past ≤ ends → ends + 2 ≤ total → Onwards nats true false ends past other rs
  once_onwards nats ends past other [] near far = tt
  once_onwards nats ends past other (r ∷ rs) near far =
      (first_within r.act (ends + 2) past (λ translating. (omega (arith, near), far)), once_onwards nats ends past (other + width nats true r) rs near far)

  -- no rule translates
  never_onwards : (nats : List IpfwNat) (one_pass : Bool) (ends past other : ℕ) (rs : List IpfwRule) → list_any (λ (r : IpfwRule). translates r.act) rs ≡ false
      → Onwards nats one_pass false ends past other rs
  never_onwards nats one_pass ends past other [] none = tt
  never_onwards nats one_pass ends past other (r ∷ rs) none =
      let both = or_parts (translates r.act) (list_any (λ (r : IpfwRule). translates r.act) rs) none in (
        first_within r.act (place_behind one_pass ends (other + width nats true r)) past (λ translating. absurd (false≢true (sym both.0 ∙ translating))),
        never_onwards nats one_pass ends past (other + width nats true r) rs both.1,
      )

  -- a pass goes on in the second half
  twice_onwards : (nats : List IpfwNat) (ends past other : ℕ) (rs : List IpfwRule) → past ≤ other → other + widths nats true rs ≤ total → Onwards nats false false ends past other rs
  twice_onwards nats ends past other [] near far = tt
  twice_onwards nats ends past other (r ∷ rs) near far = (
    first_within r.act (other + width nats true r) past (λ translating. (omega (arith, near), omega (arith, far))),
    twice_onwards nats ends past (other + width nats true r) rs (omega (arith, near)) (omega (arith, far)),
  )

  -- each of these
  all_onwards : (site : Site) (c : IpfwConfig) (o any : Bool) → site.one_pass ≡ o → list_any (λ (r : IpfwRule). translates r.act) c.rules ≡ any → (ends past : ℕ)
      → past ≤ second_place c → second_place c ≤ ends → ends + 2 ≤ total → second_place c + second_width site c ≤ total
      → Onwards c.nats o false ends past (second_place c) c.rules
  all_onwards site c true any one some ends past near less far wide = once_onwards c.nats ends past (second_place c) c.rules (omega (arith, near, less)) far
  all_onwards site c false false one some ends past near less far wide = never_onwards c.nats false ends past (second_place c) c.rules some
  all_onwards site c false true one some ends past near less far wide =
      let more : goes_on site c ≡ true = ap (λ o. not o && list_any (λ (r : IpfwRule). translates r.act) c.rules) one ∙ some in
      let full : second_width site c ≡ widths c.nats true c.rules = cond-true (goes_on site c) (widths c.nats true c.rules) 0 more in
      twice_onwards c.nats ends past (second_place c) c.rules near (omega (arith, wide, full))

  -- the second half
  second_right : (site : Site) (c : IpfwConfig) (b : Bool) → second_place c + cond b (widths c.nats true c.rules) 0 ≤ total → Right (second_place c) (cond b (half site c true) [])
  second_right site c false le = refl
  second_right site c true le =
      blocks_right c.nats site.one_pass true (ending_place site c) (second_place c + widths c.nats true c.rules) (second_place c) (second_place c) c.rules refl le tt
      (second_onwards c.nats site.one_pass (ending_place site c) (second_place c + widths c.nats true c.rules) (second_place c) c.rules)

  -- all rules
  all_right : (site : Site) (c : IpfwConfig) → ending_place site c + 3 ≤ total → Right 0 (all_rules site c)
  all_right site c le =
      let first = half site c false in
      let second = second_half site c in
      let drop = always rules.Drop in
      let ends = ending_place site c in
      let past = widths c.nats false c.rules in
      let long : length first ≡ past = blocks_length c.nats site.one_pass false ends 0 (second_place c) c.rules in
      let on : Onwards c.nats site.one_pass false ends past (second_place c) c.rules =
      all_onwards site c site.one_pass (list_any (λ (r : IpfwRule). translates r.act) c.rules) refl refl ends past (omega arith) (omega arith) (omega (arith, le)) (omega (arith, le)) in
      right.joined 0 (0 + length (first ++ drop ∷ second)) (first ++ drop ∷ second) (drop ∷ ending) refl
      (right.joined 0 past first (drop ∷ second) (omega (arith, long))
      (blocks_right c.nats site.one_pass false ends past 0 (second_place c) c.rules (omega arith) (omega (arith, le)) (omega arith, omega (arith, le)) on)
      (right.first past drop second refl (second_right site c (goes_on site c) (omega (arith, le)))))
      refl

-- how many rules there are
pub all_length : (site : Site) (c : IpfwConfig) → length (all_rules site c) ≡ ending_place site c + 3
all_length site c =
    let first = half site c false in
    let second = second_half site c in
    let drop = always rules.Drop in
    let long : length first ≡ widths c.nats false c.rules = blocks_length c.nats site.one_pass false (ending_place site c) 0 (second_place c) c.rules in
    let wide : length second ≡ second_width site c = second_length site c (goes_on site c) in
    let front : length (first ++ drop ∷ second) ≡ length first + suc (length second) = length-append first (drop ∷ second) in
    let all : length (all_rules site c) ≡ length (first ++ drop ∷ second) + 4 = length-append (first ++ drop ∷ second) (drop ∷ ending) in
    omega (arith, long, wide, front, all)

-- the rules of a pass are right among any number of chains
rules_right : (law : RulesAreRightByParts) (chains : ℕ) (site : Site) (c : IpfwConfig) → rules_ok chains (length (all_rules site c)) 0 (all_rules site c) ≡ true
rules_right law chains site c =
    let total = length (all_rules site c) in
    let all : total ≡ ending_place site c + 3 = all_length site c in
    all_right chains total (law chains total) site c (omega (arith, all))

-- every number in the diagram is right
pub diagram_ok : (law : RulesAreRightByParts) (site : Site) (c : IpfwConfig) → ifcl_ok (diagram_of site c) ≡ true
diagram_ok law site c = ap (λ b. (b && true) && true && true && true && true) (rules_right law 2 site c)

-- no rule names a chain
pub diagram_straight : (law : RulesAreRightByParts) (site : Site) (c : IpfwConfig) → is_straight (diagram_of site c) ≡ true
diagram_straight law site c = ap (λ b. b && true) (rules_right law 0 site c)
