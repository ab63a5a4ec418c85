-- Rules are walked where they stand.
use Rattle.std.proofs.Common.{◌≡◌, ℕ, zero, suc, ◌+◌, ◌-◌, ◌<◌, ◌≤◌, true, false, cond, nat_lt, List, [], ◌∷◌, ◌++◌, length, drop, arith, refl, sym, ap, ◌∙◌, subst, append_assoc}
use Rattle.std.proofs.lemmas.Bool.{le-ltb, lt-ltb, cond-true, cond-false}
use Rattle.std.proofs.lemmas.List.{drop-drop}
use Rattle.std.proofs.Math.Seq.{drop-append_seam}
use Rattle.fws_net.specs.declared.packet.Packet.{Packet}
use Rattle.fws_net.specs.declared.connection.Kind.{Kind}
use Rattle.fws_net.specs.declared.site.Site.{Site}
use Rattle.fws_net.specs.declared.transit.Transit.{Transit}
use Rattle.fws_net.specs.Conditions.{holds}
use Rattle.fws_net.specs.Transits.{with_verdict, with_src, with_dst, with_tracked_src, with_tracked_dst, with_tag, with_only_tag, without_tag}
use Rattle.fws_ifcl.specs.declared.diagram.Act.{Act}
use Rattle.fws_ifcl.specs.declared.diagram.Act.TheVariants as acts
use Rattle.fws_ifcl.specs.declared.diagram.Rule.{Rule}
use Rattle.fws_ifcl.specs.declared.diagram.Stage.{Stage}
use Rattle.fws_ifcl.specs.declared.step.ChainEnd.{ChainEnd}
use Rattle.fws_ifcl.specs.declared.step.ChainEnd.TheVariants.{Accepted, Dropped, Through}
use Rattle.fws_ifcl.specs.Walk.{sees, step_of, back, stepped, rules_walk}
use Rattle.fws_ifcl_rules.specs.Places.{StandAt, IsForward, AreForward, behind_act, walk_through}

-- both parts of rules stand where they begin
pub parts : (full : List Rule) (at next : ℕ) (xs ys : List Rule) → StandAt full at (xs ++ ys) → at + length xs ≡ next → StandAt full at xs × StandAt full next ys
parts full at next xs ys s place = (
  record { rest = ys ++ s.rest; are = s.are ∙ append_assoc xs ys s.rest },
  subst (λ n. StandAt full n ys) place (record {
    rest = s.rest;
    are = sym (drop-drop (length xs) at full) ∙ ap (drop (length xs)) (s.are ∙ append_assoc xs ys s.rest) ∙ drop-append_seam xs (ys ++ s.rest);
  }),
)

-- two walks that go on alike where a chain was left by its end
back_alike : (go next : Transit → ChainEnd) → ((t : Transit) → go t ≡ next t) → (end : ChainEnd) → back go end ≡ back next end
back_alike go next alike (Accepted t) = refl
back_alike go next alike Dropped = refl
back_alike go next alike (Through t) = alike t

module _ (enter : ℕ → Transit → ChainEnd) (site : Site) (p : Packet) (k : Kind) (stage : Stage) where
  -- the walk through rules of which the first has the place at, from a later place on
  abbrev from : ℕ → List Rule → ℕ → Transit → ChainEnd
  from at rules to t = rules_walk enter site p k stage at rules to t

  -- a place at the first rule or before it passes over none
  from_here : (at : ℕ) (rules : List Rule) (to : ℕ) (t : Transit) → to ≤ at → from at rules to t ≡ from at rules 0 t
  from_here at [] to t le = refl
  from_here at (r ∷ rs) to t le =
      let here : nat_lt at to ≡ false = le-ltb at to le in
      let zeroth : nat_lt at 0 ≡ false = le-ltb at 0 (omega arith) in
      cond-false (nat_lt at to) _ _ here ∙ sym (cond-false (nat_lt at 0) _ _ zeroth)

  -- a walk that skips rules goes on as one that begins behind them
  goes_on : (at n : ℕ) (rules : List Rule) (t : Transit) → from at rules (at + n) t ≡ from (at + n) (drop n rules) 0 t
  goes_on at zero rules t =
      let same : at ≡ at + 0 = omega arith in
      from_here at rules (at + 0) t (omega arith) ∙ ap (λ m. from m rules 0 t) same
  goes_on at (suc n) [] t = refl
  goes_on at (suc n) (r ∷ rs) t =
      let past : nat_lt at (at + suc n) ≡ true = lt-ltb at (at + suc n) (omega arith) in
      let same : at + suc n ≡ suc at + n = omega arith in
      cond-true (nat_lt at (at + suc n)) _ _ past
      ∙ ap (λ m. from (suc at) rs m t) same ∙ goes_on (suc at) n rs t ∙ ap (λ m. from m (drop n rs) 0 t) (sym same)

  -- the first rule
  first_rule : (at : ℕ) (r : Rule) (rs : List Rule) (t : Transit)
      → from at (r ∷ rs) 0 t ≡ cond (holds r.cond (sees site k stage t)) (stepped enter (from (suc at) rs) (step_of p k r.act t)) (from (suc at) rs 0 t)
  first_rule at r rs t =
      let zeroth : nat_lt at 0 ≡ false = le-ltb at 0 (omega arith) in
      cond-false (nat_lt at 0) _ _ zeroth

  -- a later place among all rules
  later : (full : List Rule) (at to : ℕ) → at ≤ to → (t : Transit) → from at (drop at full) to t ≡ from to (drop to full) 0 t
  later full at to le t =
      let far : to ≡ at + (to - at) = omega arith in
      ap (λ n. from at (drop at full) n t) far
      ∙ goes_on at (to - at) (drop at full) t
      ∙ ap (λ rules. from (at + (to - at)) rules 0 t) (drop-drop (to - at) at full)
      ∙ ap (λ n. from n (drop n full) 0 t) (sym far)

  -- an act at a place, behind which the walk goes on from the next place
  act_walked : (full : List Rule) (at : ℕ) (go : ℕ → Transit → ChainEnd) (next : Transit → ChainEnd)
      → ((t : Transit) → go 0 t ≡ next t) → ((to : ℕ) → at < to → (t : Transit) → go to t ≡ from to (drop to full) 0 t)
      → (act : Act) → IsForward at act → (t : Transit) → stepped enter go (step_of p k act t) ≡ behind_act enter site p k stage full next act t
  act_walked full at go next on skips acts.Accept forward t = refl
  act_walked full at go next on skips acts.Drop forward t = refl
  act_walked full at go next on skips (acts.Hold accepts) forward t = on (with_verdict accepts t)
  act_walked full at go next on skips (acts.Call c) forward t = back_alike (go 0) next on (enter c t)
  act_walked full at go next on skips (acts.Goto c) forward t = refl
  act_walked full at go next on skips acts.Return forward t = refl
  act_walked full at go next on skips (acts.Skip to) forward t = skips to forward t
  act_walked full at go next on skips (acts.Src e) forward t = on (with_src p e t)
  act_walked full at go next on skips (acts.Dst e) forward t = on (with_dst p e t)
  act_walked full at go next on skips acts.RecSrc forward t = on (with_tracked_src k t)
  act_walked full at go next on skips acts.RecDst forward t = on (with_tracked_dst k t)
  act_walked full at go next on skips (acts.AddTag n) forward t = on (with_tag n t)
  act_walked full at go next on skips (acts.OnlyTag n) forward t = on (with_only_tag n t)
  act_walked full at go next on skips (acts.DelTag n) forward t = on (without_tag n t)

  -- rules n places behind the place at
  rules_walked : (full : List Rule) (at n : ℕ) (rules rest : List Rule) → drop (at + n) full ≡ rules ++ rest → AreForward at n rules → (t : Transit)
      → from (at + n) (drop (at + n) full) 0 t ≡ walk_through enter site p k stage full at n rules t
  rules_walked full at n [] rest are forward t = refl
  rules_walked full at n (r ∷ rs) rest are forward t =
      let here = at + n in
      let next = at + suc n in
      let h = holds r.cond (sees site k stage t) in
      let go = from next (drop next full) in
      let through = walk_through enter site p k stage full at (suc n) rs in
      let one : here + 1 ≡ next = omega arith in
      let one_more : suc here ≡ next = omega arith in
      let left : drop next full ≡ rs ++ rest = ap (λ m. drop m full) (sym one) ∙ sym (drop-drop 1 here full) ∙ ap (drop 1) are in
      let on : (u : Transit) → go 0 u ≡ through u = rules_walked full at (suc n) rs rest left forward.1 in
      ap (λ rules. from here rules 0 t) are
      ∙ first_rule here r (rs ++ rest) t
      ∙ ap (λ m. cond h (stepped enter (from m (rs ++ rest)) (step_of p k r.act t)) (from m (rs ++ rest) 0 t)) one_more
      ∙ ap (λ rules. cond h (stepped enter (from next rules) (step_of p k r.act t)) (from next rules 0 t)) (sym left)
      ∙ ap (λ end. cond h end (go 0 t))
      (act_walked full here go through on (λ to lt u. later full next to (omega (arith, lt)) u) r.act forward.0 t)
      ∙ ap (cond h (behind_act enter site p k stage full through r.act t)) (on t)

  -- rules at a place
  pub walked : (full : List Rule) (at : ℕ) (rules : List Rule) → StandAt full at rules → AreForward at 0 rules → (t : Transit)
      → from at (drop at full) 0 t ≡ walk_through enter site p k stage full at 0 rules t
  walked full at rules s forward t =
      let same : at ≡ at + 0 = omega arith in
      ap (λ n. from n (drop n full) 0 t) same
      ∙ rules_walked full at 0 rules s.rest (ap (λ n. drop n full) (sym same) ∙ s.are) forward t
