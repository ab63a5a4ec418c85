-- What chains use that are put together from their ends.
use Rattle.std.proofs.Common.{◌≡◌, ℕ, zero, suc, ◌+◌, ◌-◌, ◌<◌, ◌≤◌, true, false, cond, List, [], ◌∷◌, ◌++◌, reverse, length, length-append, drop, get_or, drop-cons, arith, refl, sym, ap, ◌∙◌, subst, ⊎_elim, eq-or-lt_of_le, Some, None, nat_lt}
use Rattle.std.specs.List.{list_all}
use Rattle.std.proofs.lemmas.Bool.{lt-ltb, le-ltb}
use Rattle.std.proofs.lemmas.List.{length-reverse}
use Rattle.fws_net.specs.declared.transit.Transit.{Transit}
use Rattle.fws_net.specs.Conditions.{holds}
use Rattle.fws_ifcl.specs.declared.diagram.Act.{Act}
use Rattle.fws_ifcl.specs.declared.diagram.Act.TheVariants as acts
use Rattle.fws_ifcl.specs.declared.diagram.Chain.{Chain}
use Rattle.fws_ifcl.specs.declared.diagram.Rule.{Rule}
use Rattle.fws_ifcl.specs.declared.diagram.Place.{Place}
use Rattle.fws_ifcl.specs.Walk.{sees, step_of, rules_walk, rules_at}
use Rattle.fws_ifcl.specs.Uses.{used_back, used_behind, rules_used}
use Rattle.fws_ifcl.specs.Loops.{NoLoop, NamesChains, WalksUnfold, UsesUnfold}
use Rattle.fws_ifcl.specs.Soundness.{act_ok, rules_ok, chain_ok}
use Rattle.fws_unfold.specs.declared.draft.Draft.{Draft}
use Rattle.fws_unfold.specs.declared.draft.DraftAct.{DraftAct}
use Rattle.fws_unfold.specs.declared.draft.DraftAct.TheVariants.{Go}
use Rattle.fws_unfold.specs.Drafts.{Scene, walk_of, walk_from, IsBehind, AreStarts, call_of, plain_act, height_at, start_of}
use Rattle.fws_unfold.specs.Used.{drafted_used, used_of, used_from, Uses, AreUsedStarts}
use Rattle.fws_unfold.proofs.Bodies.{rule_ok, chain_there, skip_parts, drop_drop, get_last, get_before, skipped}
use Rattle.fws_unfold.proofs.DraftsUsed.{kept_used, plain_uses_more, call_uses_more, ends_plain_used, ends_jump_used}

pub put_nothing_used : (back n : ℕ) (xs : List Draft) → n ≡ back → n ≡ length xs → (chains : List Chain) (c at : ℕ)
    → Uses (λ s. used_from chains c s at []) (λ s. walk_from chains s at []) back (reverse xs) (reverse xs)
put_nothing_used back n xs is size chains c at = ends_plain_used chains c back (reverse xs) at (sym is ∙ size ∙ sym (length-reverse xs))

pub put_end_jump_used : (back : ℕ) (xs ys : List Draft) → reverse ys ≡ record { cond = []; act = Go back; rule = None } ∷ reverse xs
    → (chains : List Chain) (c at : ℕ) → Uses (λ s. used_from chains c s at []) (λ s. walk_from chains s at []) back (reverse xs) (reverse ys)
put_end_jump_used back xs ys is chains c at =
    subst (λ (code : List Draft). Uses (λ s. used_from chains c s at []) (λ s. walk_from chains s at []) back (reverse xs) code) (sym is) (ends_jump_used chains c back (reverse xs) at)

pub none_left_used : (chains : List Chain) (c : ℕ) (rules : List Rule) (back n : ℕ) (old new : List Draft) → n ≡ length rules
    → ((at : ℕ) → Uses (λ s. used_from chains c s at []) (λ s. walk_from chains s at []) back old new)
    → Uses (λ s. used_from chains c s n (drop n rules)) (λ s. walk_from chains s n (drop n rules)) back old new
none_left_used chains c rules back n old new is done =
    let none : drop n rules ≡ [] = ap (λ k. drop k rules) is ∙ all_dropped rules in
    subst (λ (rs : List Rule). Uses (λ s. used_from chains c s n rs) (λ s. walk_from chains s n rs) back old new) (sym none) (done n)
  where
    all_dropped : (rs : List Rule) → drop (length rs) rs ≡ []
    all_dropped [] = refl
    all_dropped (r ∷ rs) = all_dropped rs

-- rules before a place are passed over
skipped_used : (chains : List Chain) (c : ℕ) (s : Scene) (at k to : ℕ) (rs : List Rule) (t : Transit) → at + k ≡ to
    → rules_used (used_of chains s) (walk_of chains s) c s.site s.packet s.kind s.stage at rs to t ≡ used_from chains c s to (drop k rs) t
skipped_used chains c s at zero to [] t is = refl
skipped_used chains c s at (suc k) to [] t is = refl
skipped_used chains c s at zero to (r ∷ rs) t is =
    let same : to ≡ at = omega arith in
    let here : nat_lt at to ≡ false = le-ltb at to (omega arith) in
    let zeroth : nat_lt to 0 ≡ false = le-ltb to 0 (omega arith) in
    rw (here, zeroth) (ap (λ m. cond (holds r.cond (sees s.site s.kind s.stage t))
    (record { chain = c; rule = m } ∷ used_behind (used_of chains s) (walk_of chains s) (rules_used (used_of chains s) (walk_of chains s) c s.site s.packet s.kind s.stage (suc m) rs) (step_of s.packet s.kind r.act t))
    (rules_used (used_of chains s) (walk_of chains s) c s.site s.packet s.kind s.stage (suc m) rs 0 t)) (sym same))
skipped_used chains c s at (suc k) to (r ∷ rs) t is =
    let less : at < to = omega arith in
    let here : nat_lt at to ≡ true = lt-ltb at to less in
    let next : suc at + k ≡ to = omega arith in
    rw here (skipped_used chains c s (suc at) k to rs t next)

module _ (chains : List Chain) (c : ℕ) (rules : List Rule) (back : ℕ) (old code : List Draft) (starts : List ℕ) (known : AreUsedStarts chains c rules back old code starts) where
  start_uses : (n at to : ℕ) (act : Act) (s : Scene) (u : Transit) → act_ok n (length rules) at act ≡ true → length rules ≤ at + length starts → act ≡ acts.Skip to
      → drafted_used s code (start_of starts (length rules) act) u
      ≡ rules_used (used_of chains s) (walk_of chains s) c s.site s.packet s.kind s.stage (suc at) (drop (suc at) rules) to u
      ++ used_back (drafted_used s old back) (rules_walk (walk_of chains s) s.site s.packet s.kind s.stage (suc at) (drop (suc at) rules) to u)
  start_uses n at to act s u ok all is =
      let parts = skip_parts n (length rules) at to (ap (act_ok n (length rules) at) (sym is) ∙ ok) in
      let past : at < to = parts.0 in
      let within : to ≤ length rules = parts.1 in
      let k = length rules - to in
      let there = known k (omega arith) s u in
      let same : length rules - k ≡ to = omega arith in
      let rest : suc at + (to - suc at) ≡ to = omega arith in
      let P = λ (rs : List Rule). used_from chains c s to rs u ++ used_back (drafted_used s old back) (walk_from chains s to rs u) in
      ap (λ a. drafted_used s code (start_of starts (length rules) a) u) is
      ∙ there
      ∙ ap (λ m. used_from chains c s m (drop m rules) u ++ used_back (drafted_used s old back) (walk_from chains s m (drop m rules) u)) same
      ∙ ap (λ m. P (drop m rules)) (sym rest)
      ∙ ap P (sym (drop_drop rules (suc at) (to - suc at)))
      ∙ ap (λ xs. xs ++ used_back (drafted_used s old back) (walk_from chains s to (drop (to - suc at) (drop (suc at) rules)) u)) (sym (skipped_used chains c s (suc at) (to - suc at) to (drop (suc at) rules) u rest))
      ∙ ap (λ end. rules_used (used_of chains s) (walk_of chains s) c s.site s.packet s.kind s.stage (suc at) (drop (suc at) rules) to u ++ used_back (drafted_used s old back) end)
      (sym (skipped chains s (suc at) (to - suc at) to (drop (suc at) rules) u rest))

pub used_starts_stay : (chains : List Chain) (c : ℕ) (rules : List Rule) (back : ℕ) (old code new : List Draft) (starts : List ℕ) → AreStarts chains rules back old code starts
    → AreUsedStarts chains c rules back old code starts → IsBehind code new → AreUsedStarts chains c rules back old new starts
used_starts_stay chains c rules back old code new starts low known b k lt s t =
    kept_used code new b s (height_at starts k) t (low k lt).0 ∙ known k lt s t

pub used_starts_more : (chains : List Chain) (c : ℕ) (rules : List Rule) (back : ℕ) (old code : List Draft) (starts more : List ℕ) (next i : ℕ) → AreUsedStarts chains c rules back old code starts
    → Uses (λ s. used_from chains c s i (drop i rules)) (λ s. walk_from chains s i (drop i rules)) back old code → next ≡ length code → more ≡ starts ++ next ∷ [] → length starts + i ≡ length rules
    → AreUsedStarts chains c rules back old code more
used_starts_more chains c rules back old code starts more next i known uses is made sum =
    subst (λ (m : List ℕ). AreUsedStarts chains c rules back old code m) (sym made) (λ k lt s t.
    let size : length (starts ++ next ∷ []) ≡ length starts + 1 = length-append starts (next ∷ []) in
    let le : k ≤ length starts = omega arith in
    ⊎_elim
    (λ same.
    let h : height_at (starts ++ next ∷ []) k ≡ next = ap (height_at (starts ++ next ∷ [])) same ∙ get_last starts next in
    let there : length rules - k ≡ i = omega arith in
    ap (λ n. drafted_used s code n t) (h ∙ is) ∙ uses.uses s t
    ∙ ap (λ m. used_from chains c s m (drop m rules) t ++ used_back (drafted_used s old back) (walk_from chains s m (drop m rules) t)) (sym there))
    (λ before.
    let h : height_at (starts ++ next ∷ []) k ≡ height_at starts k = get_before starts next k before in
    ap (λ n. drafted_used s code n t) h ∙ known k before s t)
    (eq-or-lt_of_le le))

abbrev ruled : Rule → DraftAct → Place → List Draft → List Draft
ruled rule act place code = record { cond = rule.cond; act = act; rule = Some place } ∷ code

abbrev calling : Rule → Place → List Draft → ℕ → ℕ → List Draft
calling rule place body size next = record { cond = rule.cond; act = Go size; rule = Some place } ∷ record { cond = []; act = Go next; rule = None } ∷ body

pub plain_used_step : (chains : List Chain) (c : ℕ) (rules : List Rule) (i at : ℕ) (rule d : Rule) (back : ℕ) (old code new : List Draft) (starts : List ℕ) (from : Place)
    → list_all (chain_ok (length chains)) chains ≡ true → rules ≡ rules_at chains c → i ≡ suc at → i ≤ length rules → rule ≡ get_or rules at d
    → back ≤ length old → ((a b : ℕ) → call_of rule.act a b ≡ None) → IsBehind old code → from ≡ record { chain = c; rule = at }
    → Uses (λ s. used_from chains c s i (drop i rules)) (λ s. walk_from chains s i (drop i rules)) back old code → AreUsedStarts chains c rules back old code starts → length rules ≤ at + length starts
    → new ≡ record { cond = rule.cond; act = plain_act rule.act back (start_of starts (length rules) rule.act); rule = Some from } ∷ code
    → Uses (λ s. used_from chains c s at (drop at rules)) (λ s. walk_from chains s at (drop at rules)) back old new
plain_used_step chains c rules i at rule d back old code new starts from ok are next le is low plain behind place uses known all made =
    let lt : at < length rules = omega arith in
    let right : act_ok (length chains) (length rules) at rule.act ≡ true =
    ap (λ (r : Rule). act_ok (length chains) (length rules) at r.act) is
    ∙ ap (λ m. act_ok (length chains) (length rules) m (get_or rules at d).act) (let z : at ≡ 0 + at = omega arith in z)
    ∙ rule_ok (length chains) (length rules) 0 rules at d (ap (λ (rs : List Rule). rules_ok (length chains) (length rs) 0 rs) are ∙ chain_there (length chains) chains c ok) lt in
    let follows : Uses (λ s. used_from chains c s (suc at) (drop (suc at) rules)) (λ s. walk_from chains s (suc at) (drop (suc at) rules)) back old code =
    subst (λ m. Uses (λ s. used_from chains c s m (drop m rules)) (λ s. walk_from chains s m (drop m rules)) back old code) next uses in
    let rest : drop at rules ≡ rule ∷ drop (suc at) rules = drop-cons rules at d lt ∙ ap (λ (r : Rule). r ∷ drop (suc at) rules) (sym is) in
    let shape = made ∙ ap (λ (pl : Place). ruled rule (plain_act rule.act back (start_of starts (length rules) rule.act)) pl code) place in
    subst (λ (rs : List Rule). Uses (λ s. used_from chains c s at rs) (λ s. walk_from chains s at rs) back old new) (sym rest)
    (subst (λ (code : List Draft). Uses (λ s. used_from chains c s at (rule ∷ drop (suc at) rules)) (λ s. walk_from chains s at (rule ∷ drop (suc at) rules)) back old code) (sym shape)
    (plain_uses_more chains c back old rule code (start_of starts (length rules) rule.act) at (drop (suc at) rules) plain low behind follows
    (λ s to u skips. start_uses chains c rules back old code starts known (length chains) at to rule.act s u right all skips)))

pub call_used_step : (chains : List Chain) (c : ℕ) (rules : List Rule) (i at : ℕ) (rule d : Rule) (back : ℕ) (old code body new : List Draft) (from : Place) (e far next size : ℕ)
    → i ≡ suc at → i ≤ length rules → rule ≡ get_or rules at d
    → back ≤ length old → next ≡ length code → size ≡ length body → Some (e, far) ≡ call_of rule.act next back → IsBehind old code → IsBehind code body → from ≡ record { chain = c; rule = at }
    → Uses (λ s. used_from chains c s i (drop i rules)) (λ s. walk_from chains s i (drop i rules)) back old code → Uses (λ s. used_of chains s e) (λ s. walk_of chains s e) far code body
    → new ≡ record { cond = rule.cond; act = Go size; rule = Some from } ∷ record { cond = []; act = Go next; rule = None } ∷ body
    → Uses (λ s. used_from chains c s at (drop at rules)) (λ s. walk_from chains s at (drop at rules)) back old new
call_used_step chains c rules i at rule d back old code body new from e far next size step le is low is_next is_size called behind grown place uses inner made =
    let lt : at < length rules = omega arith in
    let follows : Uses (λ s. used_from chains c s (suc at) (drop (suc at) rules)) (λ s. walk_from chains s (suc at) (drop (suc at) rules)) back old code =
    subst (λ m. Uses (λ s. used_from chains c s m (drop m rules)) (λ s. walk_from chains s m (drop m rules)) back old code) step uses in
    let rest : drop at rules ≡ rule ∷ drop (suc at) rules = drop-cons rules at d lt ∙ ap (λ (r : Rule). r ∷ drop (suc at) rules) (sym is) in
    let call : Some (e, far) ≡ call_of rule.act (length code) back = called ∙ ap (λ n. call_of rule.act n back) is_next in
    let shape = made ∙ ap (λ n. calling rule from body n next) is_size ∙ ap (λ n. calling rule from body (length body) n) is_next ∙ ap (λ (pl : Place). calling rule pl body (length body) (length code)) place in
    subst (λ (rs : List Rule). Uses (λ s. used_from chains c s at rs) (λ s. walk_from chains s at rs) back old new) (sym rest)
    (subst (λ (code : List Draft). Uses (λ s. used_from chains c s at (rule ∷ drop (suc at) rules)) (λ s. walk_from chains s at (rule ∷ drop (suc at) rules)) back old code) (sym shape)
    (call_uses_more chains c back old rule code body e far at (drop (suc at) rules) low call behind grown follows inner))

pub chain_used_done : (walks : WalksUnfold) (unfolds : UsesUnfold) (chains : List Chain) (c i : ℕ) (rules : List Rule) (back : ℕ) (old new : List Draft) → NoLoop chains → NamesChains chains → c < length chains
    → rules ≡ rules_at chains c → i ≡ 0 → Uses (λ s. used_from chains c s i (drop i rules)) (λ s. walk_from chains s i (drop i rules)) back old new → Uses (λ s. used_of chains s c) (λ s. walk_of chains s c) back old new
chain_used_done walks unfolds chains c i rules back old new none named lt is zeroth uses =
    let some : 0 < length chains = omega arith in
    record {
      uses = λ s t.
          uses.uses s t
          ∙ ap (λ m. used_from chains c s m (drop m rules) t ++ used_back (drafted_used s old back) (walk_from chains s m (drop m rules) t)) zeroth
          ∙ ap (λ (rs : List Rule). used_from chains c s 0 rs t ++ used_back (drafted_used s old back) (walk_from chains s 0 rs t)) is
          ∙ ap (λ end. used_from chains c s 0 (rules_at chains c) t ++ used_back (drafted_used s old back) end) (sym (walks chains s.site s.packet s.kind s.stage none named some c t))
          ∙ ap (λ xs. xs ++ used_back (drafted_used s old back) (walk_of chains s c t)) (sym (unfolds chains s.site s.packet s.kind s.stage none named some c t));
    }
