-- Chains put together from their ends.
use Rattle.std.proofs.Common.{◌≡◌, ℕ, zero, suc, ◌+◌, ◌-◌, ◌<◌, ◌≤◌, true, false, cond, List, [], ◌∷◌, ◌++◌, reverse, length, length-append, drop, get_or, drop-cons, arith, refl, sym, ap, ◌∙◌, subst, ⊎_elim, eq-or-lt_of_le, Option, Some, None, nat_lt, Contains, ltb-true, leb-true}
use Rattle.std.specs.Prelude.{nat_le}
use Rattle.std.specs.List.{list_all}
use Rattle.std.specs.Option.{option_map_or}
use Rattle.std.proofs.lemmas.Bool.{and_parts, lt-ltb, le-ltb}
use Rattle.std.proofs.lemmas.List.{length-reverse}
use Rattle.std.proofs.lemmas.List.Elements.{Contains-append_left, Contains-append_right}
use Rattle.fws_net.specs.declared.transit.Transit.{Transit}
use Rattle.fws_ifcl.specs.declared.diagram.Act.{Act}
use Rattle.fws_ifcl.specs.declared.diagram.Act.TheVariants as acts
use Rattle.fws_ifcl.specs.declared.diagram.Chain.{Chain}
use Rattle.fws_ifcl.specs.declared.diagram.Rule.{Rule}
use Rattle.fws_ifcl.specs.declared.diagram.Place.{Place}
use Rattle.fws_ifcl.specs.declared.step.ChainEnd.{ChainEnd}
use Rattle.fws_ifcl.specs.Walk.{rules_walk, rules_at}
use Rattle.fws_ifcl.specs.Loops.{NoLoop, NamesChains, WalksUnfold}
use Rattle.fws_ifcl.specs.Refusals.{named_by, all_named, named_in}
use Rattle.fws_ifcl.specs.Soundness.{act_ok, rules_ok, chain_ok}
use Rattle.fws_unfold.specs.declared.draft.Draft.{Draft}
use Rattle.fws_unfold.specs.declared.draft.DraftAct.TheVariants.{Go}
use Rattle.fws_unfold.specs.Drafts.{Scene, drafted, left_by, walk_of, walk_from, IsBehind, Does, call_of, plain_act, height_at, start_of, AreStarts}
use Rattle.fws_unfold.proofs.Drafts.{kept, longer, behind_on, plain_more, call_more, ends_plain, ends_jump}

does_same : (w v : Scene → Transit → ChainEnd) (k : ℕ) (old new : List Draft) → ((s : Scene) (t : Transit) → w s t ≡ v s t) → Does w k old new → Does v k old new
does_same w v k old new same d = record { behind = d.behind; fits = d.fits; walks = λ s t. d.walks s t ∙ ap (left_by (drafted s old k)) (same s t) }

pub put_nothing : (back n : ℕ) (xs : List Draft) → n ≡ back → n ≡ length xs → (chains : List Chain) (at : ℕ) → Does (λ s. walk_from chains s at []) back (reverse xs) (reverse xs)
put_nothing back n xs is size chains at = ends_plain chains back (reverse xs) at (sym is ∙ size ∙ sym (length-reverse xs))

pub put_end_jump : (back : ℕ) (xs ys : List Draft) → back ≤ length xs → reverse ys ≡ record { cond = []; act = Go back; rule = None } ∷ reverse xs
    → (chains : List Chain) (at : ℕ) → Does (λ s. walk_from chains s at []) back (reverse xs) (reverse ys)
put_end_jump back xs ys low is chains at =
    let same = length-reverse xs in
    let low_too : back ≤ length (reverse xs) = omega (arith, same) in
    subst (λ (code : List Draft). Does (λ s. walk_from chains s at []) back (reverse xs) code) (sym is) (ends_jump chains back (reverse xs) at low_too)

-- The rules of a chain that is right

pub rule_ok : (n all at : ℕ) (rules : List Rule) (k : ℕ) (d : Rule) → rules_ok n all at rules ≡ true → k < length rules → act_ok n all (at + k) (get_or rules k d).act ≡ true
rule_ok n all at [] k d ok lt = absurd (omega arith)
rule_ok n all at (r ∷ rs) zero d ok lt =
    let same : at + 0 ≡ at = omega arith in
    ap (λ m. act_ok n all m r.act) same ∙ (and_parts (act_ok n all at r.act) (rules_ok n all (suc at) rs) ok).0
rule_ok n all at (r ∷ rs) (suc k) d ok lt =
    let same : at + suc k ≡ suc at + k = omega arith in
    ap (λ m. act_ok n all m (get_or rs k d).act) same ∙ rule_ok n all (suc at) rs k d (and_parts (act_ok n all at r.act) (rules_ok n all (suc at) rs) ok).1 (omega arith)

pub chain_there : (n : ℕ) (chains : List Chain) (c : ℕ) → list_all (chain_ok n) chains ≡ true → rules_ok n (length (rules_at chains c)) 0 (rules_at chains c) ≡ true
chain_there n [] c ok = refl
chain_there n (chain ∷ chains) zero ok = (and_parts (chain_ok n chain) (list_all (chain_ok n) chains) ok).0
chain_there n (chain ∷ chains) (suc c) ok = chain_there n chains c (and_parts (chain_ok n chain) (list_all (chain_ok n) chains) ok).1

named_there : (rules : List Rule) (k : ℕ) (d : Rule) (e : ℕ) → k < length rules → named_by (get_or rules k d).act ≡ Some e → Contains (all_named rules) e
named_there [] k d e lt is = absurd (omega arith)
named_there (r ∷ rs) zero d e lt is =
    Contains-append_left (option_map_or (λ c. c ∷ []) (named_by r.act) []) (all_named rs) e
    (subst (λ o. Contains (option_map_or (λ c. c ∷ []) o []) e) (sym is) (0, omega arith, refl))
named_there (r ∷ rs) (suc k) d e lt is =
    Contains-append_right (option_map_or (λ c. c ∷ []) (named_by r.act) []) (all_named rs) e (named_there rs k d e (omega arith) is)

called_named : (act : Act) (next back e far : ℕ) → Some (e, far) ≡ call_of act next back → named_by act ≡ Some e
called_named (acts.Call c) next back e far is = let pair : ◌≡◌ {A = ℕ × ℕ} (e, far) (c, next) = cc in ap Some (sym (ap (λ (x : ℕ × ℕ). x.0) pair))
called_named (acts.Goto c) next back e far is = let pair : ◌≡◌ {A = ℕ × ℕ} (e, far) (c, back) = cc in ap Some (sym (ap (λ (x : ℕ × ℕ). x.0) pair))
called_named acts.Accept next back e far is = absurd (cc)
called_named acts.Drop next back e far is = absurd (cc)
called_named (acts.Hold h) next back e far is = absurd (cc)
called_named acts.Return next back e far is = absurd (cc)
called_named (acts.Skip to) next back e far is = absurd (cc)
called_named (acts.Src x) next back e far is = absurd (cc)
called_named (acts.Dst x) next back e far is = absurd (cc)
called_named acts.RecSrc next back e far is = absurd (cc)
called_named acts.RecDst next back e far is = absurd (cc)
called_named (acts.AddTag n) next back e far is = absurd (cc)
called_named (acts.OnlyTag n) next back e far is = absurd (cc)
called_named (acts.DelTag n) next back e far is = absurd (cc)

-- the chain that a rule enters is named by its chain
pub enters_named : (chains : List Chain) (c k : ℕ) (rules : List Rule) (d : Rule) (next back e far : ℕ) → rules ≡ rules_at chains c → k < length rules
    → Some (e, far) ≡ call_of (get_or rules k d).act next back → Contains (named_in chains c) e
enters_named chains c k rules d next back e far is lt called =
    subst (λ (rules : List Rule). Contains (all_named rules) e) is (named_there rules k d e lt (called_named (get_or rules k d).act next back e far called))

-- the place behind which it goes on stands in the code
pub far_within : (act : Act) (next back e far : ℕ) → Some (e, far) ≡ call_of act next back → back ≤ next → far ≤ next
far_within (acts.Call c) next back e far is low = let pair : ◌≡◌ {A = ℕ × ℕ} (e, far) (c, next) = cc in let same : far ≡ next = ap (λ (x : ℕ × ℕ). x.1) pair in omega arith
far_within (acts.Goto c) next back e far is low = let pair : ◌≡◌ {A = ℕ × ℕ} (e, far) (c, back) = cc in let same : far ≡ back = ap (λ (x : ℕ × ℕ). x.1) pair in omega arith
far_within acts.Accept next back e far is low = absurd (cc)
far_within acts.Drop next back e far is low = absurd (cc)
far_within (acts.Hold h) next back e far is low = absurd (cc)
far_within acts.Return next back e far is low = absurd (cc)
far_within (acts.Skip to) next back e far is low = absurd (cc)
far_within (acts.Src x) next back e far is low = absurd (cc)
far_within (acts.Dst x) next back e far is low = absurd (cc)
far_within acts.RecSrc next back e far is low = absurd (cc)
far_within acts.RecDst next back e far is low = absurd (cc)
far_within (acts.AddTag n) next back e far is low = absurd (cc)
far_within (acts.OnlyTag n) next back e far is low = absurd (cc)
far_within (acts.DelTag n) next back e far is low = absurd (cc)

-- Skips

-- rules before a place are passed over
pub skipped : (chains : List Chain) (s : Scene) (at k to : ℕ) (rs : List Rule) (t : Transit) → at + k ≡ to
    → rules_walk (walk_of chains s) s.site s.packet s.kind s.stage at rs to t ≡ walk_from chains s to (drop k rs) t
skipped chains s at zero to [] t is = refl
skipped chains s at (suc k) to [] t is = refl
skipped chains s at zero to (r ∷ rs) t is =
    let same : to ≡ at = omega arith in
    let here : nat_lt at to ≡ false = le-ltb at to (omega arith) in
    let zeroth : nat_lt at 0 ≡ false = le-ltb at 0 (omega arith) in
    let zeroth_too : nat_lt to 0 ≡ false = le-ltb to 0 (omega arith) in
    rw (here, zeroth_too) (ap (λ m. cond (Rattle.fws_net.specs.Conditions.holds r.cond (Rattle.fws_ifcl.specs.Walk.sees s.site s.kind s.stage t))
    (Rattle.fws_ifcl.specs.Walk.stepped (walk_of chains s) (rules_walk (walk_of chains s) s.site s.packet s.kind s.stage (suc m) rs) (Rattle.fws_ifcl.specs.Walk.step_of s.packet s.kind r.act t))
    (rules_walk (walk_of chains s) s.site s.packet s.kind s.stage (suc m) rs 0 t)) (sym same))
skipped chains s at (suc k) to (r ∷ rs) t is =
    let less : at < to = omega arith in
    let here : nat_lt at to ≡ true = lt-ltb at to less in
    let next : suc at + k ≡ to = omega arith in
    rw here (skipped chains s (suc at) k to rs t next)

pub drop_drop : (rules : List Rule) (a b : ℕ) → drop b (drop a rules) ≡ drop (a + b) rules
drop_drop [] zero b = let z : 0 + b ≡ b = omega arith in rw z refl
drop_drop [] (suc a) zero = let z : suc a + 0 ≡ suc a = omega arith in rw z refl
drop_drop [] (suc a) (suc b) = let z : suc a + suc b ≡ suc (a + suc b) = omega arith in rw z refl
drop_drop (r ∷ rs) zero b = let z : 0 + b ≡ b = omega arith in rw z refl
drop_drop (r ∷ rs) (suc a) b = let z : suc a + b ≡ suc (a + b) = omega arith in rw z (drop_drop rs a b)

pub skip_parts : (n all at to : ℕ) → act_ok n all at (acts.Skip to) ≡ true → (at < to) × (to ≤ all)
skip_parts n all at to ok =
    let both = and_parts (nat_lt at to) (nat_le to all) ok in
    (ltb-true at to both.0, leb-true to all both.1)

module _ (chains : List Chain) (rules : List Rule) (back : ℕ) (old code : List Draft) (starts : List ℕ) (known : AreStarts chains rules back old code starts) where
  start_low : (n at : ℕ) (act : Act) → act_ok n (length rules) at act ≡ true → length rules ≤ at + length starts → start_of starts (length rules) act ≤ length code
  start_low n at (acts.Skip to) ok all =
      let parts = skip_parts n (length rules) at to ok in
      let past : at < to = parts.0 in
      let within : to ≤ length rules = parts.1 in
      (known (length rules - to) (omega arith)).0
  start_low n at acts.Accept ok all = omega arith
  start_low n at acts.Drop ok all = omega arith
  start_low n at (acts.Hold h) ok all = omega arith
  start_low n at (acts.Call c) ok all = omega arith
  start_low n at (acts.Goto c) ok all = omega arith
  start_low n at acts.Return ok all = omega arith
  start_low n at (acts.Src e) ok all = omega arith
  start_low n at (acts.Dst e) ok all = omega arith
  start_low n at acts.RecSrc ok all = omega arith
  start_low n at acts.RecDst ok all = omega arith
  start_low n at (acts.AddTag m) ok all = omega arith
  start_low n at (acts.OnlyTag m) ok all = omega arith
  start_low n at (acts.DelTag m) ok all = omega arith

  start_does : (n at to : ℕ) (act : Act) (s : Scene) (u : Transit) → act_ok n (length rules) at act ≡ true → length rules ≤ at + length starts → act ≡ acts.Skip to
      → drafted s code (start_of starts (length rules) act) u
      ≡ left_by (drafted s old back) (rules_walk (walk_of chains s) s.site s.packet s.kind s.stage (suc at) (drop (suc at) rules) to u)
  start_does n at to act s u ok all is =
      let parts = skip_parts n (length rules) at to (ap (act_ok n (length rules) at) (sym is) ∙ ok) in
      let past : at < to = parts.0 in
      let within : to ≤ length rules = parts.1 in
      let k = length rules - to in
      let there = (known k (omega arith)).1 s u in
      let same : length rules - k ≡ to = omega arith in
      let rest : suc at + (to - suc at) ≡ to = omega arith in
      ap (λ a. drafted s code (start_of starts (length rules) a) u) is
      ∙ there
      ∙ ap (λ m. left_by (drafted s old back) (walk_from chains s m (drop m rules) u)) same
      ∙ ap (λ m. left_by (drafted s old back) (walk_from chains s to (drop m rules) u)) (sym rest)
      ∙ ap (λ rs. left_by (drafted s old back) (walk_from chains s to rs u)) (sym (drop_drop rules (suc at) (to - suc at)))
      ∙ ap (left_by (drafted s old back)) (sym (skipped chains s (suc at) (to - suc at) to (drop (suc at) rules) u rest))

  -- beginnings stay where code is put before
  pub starts_stay : (new : List Draft) → IsBehind code new → AreStarts chains rules back old new starts
  starts_stay new b k lt =
      let le = longer code new b in
      let here : height_at starts k ≤ length code = (known k lt).0 in
      let low : height_at starts k ≤ length new = omega arith in
      (low, λ s t. kept code new b s (height_at starts k) t here ∙ (known k lt).1 s t)

pub get_last : (xs : List ℕ) (x : ℕ) → height_at (xs ++ x ∷ []) (length xs) ≡ x
get_last [] x = refl
get_last (y ∷ xs) x = get_last xs x

pub get_before : (xs : List ℕ) (x k : ℕ) → k < length xs → height_at (xs ++ x ∷ []) k ≡ height_at xs k
get_before [] x k lt = absurd (omega arith)
get_before (y ∷ xs) x zero lt = refl
get_before (y ∷ xs) x (suc k) lt = get_before xs x k (omega arith)

-- one beginning more
pub starts_more : (chains : List Chain) (rules : List Rule) (back : ℕ) (old code : List Draft) (starts more : List ℕ) (next i : ℕ) → AreStarts chains rules back old code starts
    → Does (λ s. walk_from chains s i (drop i rules)) back old code → next ≡ length code → more ≡ starts ++ next ∷ [] → length starts + i ≡ length rules
    → AreStarts chains rules back old code more
starts_more chains rules back old code starts more next i known does is made sum =
    subst (λ (m : List ℕ). AreStarts chains rules back old code m) (sym made) (λ k lt.
    let size : length (starts ++ next ∷ []) ≡ length starts + 1 = length-append starts (next ∷ []) in
    let le : k ≤ length starts = omega arith in
    ⊎_elim
    (λ same.
    let h : height_at (starts ++ next ∷ []) k ≡ next = ap (height_at (starts ++ next ∷ [])) same ∙ get_last starts next in
    let there : length rules - k ≡ i = omega arith in
    let low : height_at (starts ++ next ∷ []) k ≤ length code = omega arith in (
      low,
      λ s t.
          ap (λ n. drafted s code n t) (h ∙ is) ∙ does.walks s t ∙ ap (λ m. left_by (drafted s old back) (walk_from chains s m (drop m rules) t)) (sym there),
    ))
    (λ before.
    let h : height_at (starts ++ next ∷ []) k ≡ height_at starts k = get_before starts next k before in
    let low_before : height_at starts k ≤ length code = (known k before).0 in
    let low : height_at (starts ++ next ∷ []) k ≤ length code = omega arith in
    (low, λ s t. ap (λ n. drafted s code n t) h ∙ (known k before).1 s t))
    (eq-or-lt_of_le le))

-- The steps of the loop over the rules from the last on

pub plain_step : (chains : List Chain) (c : ℕ) (rules : List Rule) (i at : ℕ) (rule d : Rule) (back : ℕ) (old code new : List Draft) (starts : List ℕ) (from : Option Place)
    → list_all (chain_ok (length chains)) chains ≡ true → rules ≡ rules_at chains c → i ≡ suc at → i ≤ length rules → rule ≡ get_or rules at d
    → back ≤ length old → ((a b : ℕ) → call_of rule.act a b ≡ None)
    → Does (λ s. walk_from chains s i (drop i rules)) back old code → AreStarts chains rules back old code starts → length rules ≤ at + length starts
    → new ≡ record { cond = rule.cond; act = plain_act rule.act back (start_of starts (length rules) rule.act); rule = from } ∷ code
    → Does (λ s. walk_from chains s at (drop at rules)) back old new
plain_step chains c rules i at rule d back old code new starts from ok are next le is low plain does known all made =
    let lt : at < length rules = omega arith in
    let right : act_ok (length chains) (length rules) at rule.act ≡ true =
    ap (λ (r : Rule). act_ok (length chains) (length rules) at r.act) is
    ∙ ap (λ m. act_ok (length chains) (length rules) m (get_or rules at d).act) (let z : at ≡ 0 + at = omega arith in z)
    ∙ rule_ok (length chains) (length rules) 0 rules at d (ap (λ (rs : List Rule). rules_ok (length chains) (length rs) 0 rs) are ∙ chain_there (length chains) chains c ok) lt in
    let follows : Does (λ s. walk_from chains s (suc at) (drop (suc at) rules)) back old code = subst (λ m. Does (λ s. walk_from chains s m (drop m rules)) back old code) next does in
    let rest : drop at rules ≡ rule ∷ drop (suc at) rules = drop-cons rules at d lt ∙ ap (λ (r : Rule). r ∷ drop (suc at) rules) (sym is) in
    subst (λ (rs : List Rule). Does (λ s. walk_from chains s at rs) back old new) (sym rest)
    (subst (λ (code : List Draft). Does (λ s. walk_from chains s at (rule ∷ drop (suc at) rules)) back old code) (sym made)
    (plain_more chains back old rule from code (start_of starts (length rules) rule.act) at (drop (suc at) rules) plain low
    (start_low chains rules back old code starts known (length chains) at rule.act right all) follows
    (λ s to u skips. start_does chains rules back old code starts known (length chains) at to rule.act s u right all skips)))

abbrev guarded : Rule → Option Place → List Draft → ℕ → ℕ → List Draft
guarded rule from body size next = record { cond = rule.cond; act = Go size; rule = from } ∷ record { cond = []; act = Go next; rule = None } ∷ body

pub none_left : (chains : List Chain) (rules : List Rule) (back n : ℕ) (old new : List Draft) → n ≡ length rules → ((at : ℕ) → Does (λ s. walk_from chains s at []) back old new)
    → Does (λ s. walk_from chains s n (drop n rules)) back old new
none_left chains rules back n old new is done =
    let none : drop n rules ≡ [] = ap (λ k. drop k rules) is ∙ all_dropped rules in
    subst (λ (rs : List Rule). Does (λ s. walk_from chains s n rs) back old new) (sym none) (done n)
  where
    all_dropped : (rs : List Rule) → drop (length rs) rs ≡ []
    all_dropped [] = refl
    all_dropped (r ∷ rs) = all_dropped rs

pub none_called : (act : Act) (x y : ℕ) → None ≡ call_of act x y → (a b : ℕ) → call_of act a b ≡ None
none_called (acts.Call c) x y none a b = absurd (cc)
none_called (acts.Goto c) x y none a b = absurd (cc)
none_called acts.Accept x y none a b = refl
none_called acts.Drop x y none a b = refl
none_called (acts.Hold h) x y none a b = refl
none_called acts.Return x y none a b = refl
none_called (acts.Skip to) x y none a b = refl
none_called (acts.Src e) x y none a b = refl
none_called (acts.Dst e) x y none a b = refl
none_called acts.RecSrc x y none a b = refl
none_called acts.RecDst x y none a b = refl
none_called (acts.AddTag n) x y none a b = refl
none_called (acts.OnlyTag n) x y none a b = refl
none_called (acts.DelTag n) x y none a b = refl

pub one_before : (code new : List Draft) (i : Draft) → new ≡ i ∷ code → IsBehind code new
one_before code new i is = record { front = i ∷ []; is = is }

pub two_before : (code body new : List Draft) (i j : Draft) → IsBehind code body → new ≡ i ∷ j ∷ body → IsBehind code new
two_before code body new i j b is = behind_on code body new b (record { front = i ∷ j ∷ []; is = is })

pub call_step : (chains : List Chain) (rules : List Rule) (i at : ℕ) (rule d : Rule) (back : ℕ) (old code body new : List Draft) (from : Option Place) (e far next size : ℕ)
    → i ≡ suc at → i ≤ length rules → rule ≡ get_or rules at d
    → back ≤ length old → next ≡ length code → size ≡ length body → Some (e, far) ≡ call_of rule.act next back
    → Does (λ s. walk_from chains s i (drop i rules)) back old code → Does (λ s. walk_of chains s e) far code body
    → new ≡ record { cond = rule.cond; act = Go size; rule = from } ∷ record { cond = []; act = Go next; rule = None } ∷ body
    → Does (λ s. walk_from chains s at (drop at rules)) back old new
call_step chains rules i at rule d back old code body new from e far next size step le is low is_next is_size called does inner made =
    let lt : at < length rules = omega arith in
    let follows : Does (λ s. walk_from chains s (suc at) (drop (suc at) rules)) back old code = subst (λ m. Does (λ s. walk_from chains s m (drop m rules)) back old code) step does in
    let rest : drop at rules ≡ rule ∷ drop (suc at) rules = drop-cons rules at d lt ∙ ap (λ (r : Rule). r ∷ drop (suc at) rules) (sym is) in
    let call : Some (e, far) ≡ call_of rule.act (length code) back = called ∙ ap (λ n. call_of rule.act n back) is_next in
    let shape : new ≡ record { cond = rule.cond; act = Go (length body); rule = from } ∷ record { cond = []; act = Go (length code); rule = None } ∷ body =
    made ∙ ap (λ n. guarded rule from body n next) is_size ∙ ap (λ n. guarded rule from body (length body) n) is_next in
    subst (λ (rs : List Rule). Does (λ s. walk_from chains s at rs) back old new) (sym rest)
    (subst (λ (code : List Draft). Does (λ s. walk_from chains s at (rule ∷ drop (suc at) rules)) back old code) (sym shape)
    (call_more chains back old rule from code body e far at (drop (suc at) rules) low call follows inner))

pub chain_done : (unfolds : WalksUnfold) (chains : List Chain) (c i : ℕ) (rules : List Rule) (back : ℕ) (old new : List Draft) → NoLoop chains → NamesChains chains → c < length chains
    → rules ≡ rules_at chains c → i ≡ 0 → Does (λ s. walk_from chains s i (drop i rules)) back old new → Does (λ s. walk_of chains s c) back old new
chain_done unfolds chains c i rules back old new none named lt is zeroth does =
    let some : 0 < length chains = omega arith in
    does_same (λ s. walk_from chains s i (drop i rules)) (λ s. walk_of chains s c) back old new
    (λ s t. ap (λ m. walk_from chains s m (drop m rules) t) zeroth ∙ ap (λ (rs : List Rule). walk_from chains s 0 rs t) is
    ∙ sym (unfolds chains s.site s.packet s.kind s.stage none named some c t)) does
