-- What is told of the rules that walks use goes by places and by stages.
use Rattle.std.proofs.Common.{◌≡◌, ℕ, zero, suc, ◌+◌, ◌-◌, ◌<◌, ◌≤◌, Bool, true, false, cond, nat_eq, nat_lt, Option, Some, None, List, [], ◌∷◌, ◌++◌, length, drop, get_or, arith, refl, sym, ap, ◌∙◌, subst, append_assoc}
use Rattle.std.proofs.lemmas.Bool.{le-ltb, lt-ltb, cond-true, cond-false}
use Rattle.std.proofs.lemmas.Grind.{flat_map-append}
use Rattle.std.proofs.lemmas.List.{drop-drop, get_or-drop}
use Rattle.std.proofs.Math.Seq.{drop-append_seam}
use Rattle.std.specs.Option.{option_map_or}
use Rattle.fws_net.specs.declared.connection.Kind.{Kind}
use Rattle.fws_net.specs.declared.exit.Exit.{Exit}
use Rattle.fws_net.specs.declared.exit.Exit.TheVariants.{Deliver, Out, Lost}
use Rattle.fws_net.specs.declared.packet.Packet.{Packet}
use Rattle.fws_net.specs.declared.site.Site.{Site}
use Rattle.fws_net.specs.declared.transit.Transit.{Transit}
use Rattle.fws_net.specs.Conditions.{holds}
use Rattle.fws_net.specs.Routes.{exit_at}
use Rattle.fws_net.specs.Transits.{with_verdict, with_src, with_dst, with_tracked_src, with_tracked_dst, with_tag, with_only_tag, without_tag, entered, used_by, used_onwards}
use Rattle.fws_ifcl.specs.declared.diagram.Act.{Act}
use Rattle.fws_ifcl.specs.declared.diagram.Act.TheVariants as acts
use Rattle.fws_ifcl.specs.declared.diagram.Chain.{Chain}
use Rattle.fws_ifcl.specs.declared.diagram.Place.{Place}
use Rattle.fws_ifcl.specs.declared.diagram.Rule.{Rule}
use Rattle.fws_ifcl.specs.declared.diagram.Spot.{Spot}
use Rattle.fws_ifcl.specs.declared.diagram.Stage.{Stage}
use Rattle.fws_ifcl.specs.declared.step.ChainEnd.{ChainEnd}
use Rattle.fws_ifcl.specs.declared.step.ChainEnd.TheVariants.{Accepted, Dropped, Through}
use Rattle.fws_ifcl.specs.declared.step.Step.{Step}
use Rattle.fws_ifcl.specs.declared.step.Step.TheVariants as steps
use Rattle.fws_ifcl.specs.Spots.{numbers_at, told}
use Rattle.fws_ifcl.specs.Uses.{used_back, used_behind, rules_used, stage_used, stages_used}
use Rattle.fws_ifcl.specs.Walk.{sees, step_of, stage_walk, stages_walk}
use Rattle.fws_ifcl_rules.specs.Places.{StandAt, IsForward, AreForward}
use Rattle.fws_ifcl_rules.specs.UsedPlaces.{StandBeside, told_back, told_behind, told_act, told_through, AreBeside, stages_told}

-- both parts of numbers stand where they begin
pub parts : (full : List (List ℕ)) (at next : ℕ) (xs ys : List (List ℕ)) → StandBeside full at (xs ++ ys) → at + length xs ≡ next
    → StandBeside full at xs × StandBeside full next ys
parts full at next xs ys s place = (
  record { rest = ys ++ s.rest; are = s.are ∙ append_assoc xs ys s.rest },
  subst (λ n. StandBeside full n ys) place (record {
    rest = s.rest;
    are = sym (drop-drop (length xs) at full) ∙ ap (drop (length xs)) (s.are ∙ append_assoc xs ys s.rest) ∙ drop-append_seam xs (ys ++ s.rest);
  }),
)

-- What is told of one of two lists, and of both

told_by : (spots : List Spot) (b : Bool) (x y : List Place) → told spots (cond b x y) ≡ cond b (told spots x) (told spots y)
told_by spots true x y = refl
told_by spots false x y = refl

told_joined : (spots : List Spot) (x y : List Place) → told spots (x ++ y) ≡ told spots x ++ told spots y
told_joined spots x y = flat_map-append (numbers_at spots) x y

module _ (used : ℕ → Transit → List Place) (enter : ℕ → Transit → ChainEnd) (spots : List Spot) (c : ℕ) (site : Site) (p : Packet) (k : Kind) (stage : Stage) where
  -- of other chains
  abbrev tells : ℕ → Transit → List ℕ
  tells c t = told spots (used c t)

  -- of the rules behind a chain, and behind a rule
  back_told : (go : Transit → List Place) (end : ChainEnd) → told spots (used_back go end) ≡ told_back (λ t. told spots (go t)) end
  back_told go (Accepted t) = refl
  back_told go Dropped = refl
  back_told go (Through t) = refl

  behind_told : (go : ℕ → Transit → List Place) (step : Step) → told spots (used_behind used enter go step) ≡ told_behind tells enter (λ to t. told spots (go to t)) step
  behind_told go (steps.Leave end) = refl
  behind_told go (steps.Onwards to t) = refl
  behind_told go (steps.Enter c t) = told_joined spots (used c t) (used_back (go 0) (enter c t)) ∙ ap (λ l. tells c t ++ l) (back_told (go 0) (enter c t))
  behind_told go (steps.Switch c t) = refl

  -- what is told of the rules of which the first has the place at, from a later place on
  abbrev from : ℕ → List Rule → ℕ → Transit → List ℕ
  from at rules to t = told spots (rules_used used enter c site p k stage at rules to t)

  -- a place at the first rule or before it passes over none
  from_here : (at : ℕ) (rules : List Rule) (to : ℕ) (t : Transit) → to ≤ at → from at rules to t ≡ from at rules 0 t
  from_here at [] to t le = refl
  from_here at (r ∷ rs) to t le =
      let here : nat_lt at to ≡ false = le-ltb at to le in
      let zeroth : nat_lt at 0 ≡ false = le-ltb at 0 (omega arith) in
      ap (told spots) (cond-false (nat_lt at to) _ _ here ∙ sym (cond-false (nat_lt at 0) _ _ zeroth))

  -- a walk that skips rules goes on as one that begins behind them
  goes_on : (at n : ℕ) (rules : List Rule) (t : Transit) → from at rules (at + n) t ≡ from (at + n) (drop n rules) 0 t
  goes_on at zero rules t =
      let same : at ≡ at + 0 = omega arith in
      from_here at rules (at + 0) t (omega arith) ∙ ap (λ m. from m rules 0 t) same
  goes_on at (suc n) [] t = refl
  goes_on at (suc n) (r ∷ rs) t =
      let past : nat_lt at (at + suc n) ≡ true = lt-ltb at (at + suc n) (omega arith) in
      let same : at + suc n ≡ suc at + n = omega arith in
      ap (told spots) (cond-true (nat_lt at (at + suc n)) _ _ past)
      ∙ ap (λ m. from (suc at) rs m t) same ∙ goes_on (suc at) n rs t ∙ ap (λ m. from m (drop n rs) 0 t) (sym same)

  -- the first rule
  first_rule : (at : ℕ) (r : Rule) (rs : List Rule) (t : Transit)
      → from at (r ∷ rs) 0 t
      ≡ cond (holds r.cond (sees site k stage t)) (numbers_at spots (record { chain = c; rule = at }) ++ told_behind tells enter (from (suc at) rs) (step_of p k r.act t))
      (from (suc at) rs 0 t)
  first_rule at r rs t =
      let zeroth : nat_lt at 0 ≡ false = le-ltb at 0 (omega arith) in
      let h = holds r.cond (sees site k stage t) in
      let here : Place = record { chain = c; rule = at } in
      let go = rules_used used enter c site p k stage (suc at) rs in
      let step = step_of p k r.act t in
      ap (told spots) (cond-false (nat_lt at 0) _ _ zeroth)
      ∙ told_by spots h (here ∷ used_behind used enter go step) (go 0 t)
      ∙ ap (λ l. cond h (numbers_at spots here ++ l) (from (suc at) rs 0 t)) (behind_told go step)

  -- a later place among all rules
  later : (full : List Rule) (at to : ℕ) → at ≤ to → (t : Transit) → from at (drop at full) to t ≡ from to (drop to full) 0 t
  later full at to le t =
      let far : to ≡ at + (to - at) = omega arith in
      ap (λ n. from at (drop at full) n t) far
      ∙ goes_on at (to - at) (drop at full) t
      ∙ ap (λ rules. from (at + (to - at)) rules 0 t) (drop-drop (to - at) at full)
      ∙ ap (λ n. from n (drop n full) 0 t) (sym far)

  -- two ways to go on behind a chain that tell the same
  back_alike : (go next : Transit → List ℕ) → ((t : Transit) → go t ≡ next t) → (end : ChainEnd) → told_back go end ≡ told_back next end
  back_alike go next alike (Accepted t) = refl
  back_alike go next alike Dropped = refl
  back_alike go next alike (Through t) = alike t

  -- an act at a place, behind which the walk goes on from the next place
  act_told : (full : List Rule) (at : ℕ) (go : ℕ → Transit → List ℕ) (next : Transit → List ℕ)
      → ((t : Transit) → go 0 t ≡ next t) → ((to : ℕ) → at < to → (t : Transit) → go to t ≡ from to (drop to full) 0 t)
      → (act : Act) → IsForward at act → (t : Transit)
      → told_behind tells enter go (step_of p k act t) ≡ told_act used enter spots c site p k stage full next act t
  act_told full at go next on skips acts.Accept forward t = refl
  act_told full at go next on skips acts.Drop forward t = refl
  act_told full at go next on skips (acts.Hold accepts) forward t = on (with_verdict accepts t)
  act_told full at go next on skips (acts.Call d) forward t = ap (λ l. tells d t ++ l) (back_alike (go 0) next on (enter d t))
  act_told full at go next on skips (acts.Goto d) forward t = refl
  act_told full at go next on skips acts.Return forward t = refl
  act_told full at go next on skips (acts.Skip to) forward t = skips to forward t
  act_told full at go next on skips (acts.Src e) forward t = on (with_src p e t)
  act_told full at go next on skips (acts.Dst e) forward t = on (with_dst p e t)
  act_told full at go next on skips acts.RecSrc forward t = on (with_tracked_src k t)
  act_told full at go next on skips acts.RecDst forward t = on (with_tracked_dst k t)
  act_told full at go next on skips (acts.AddTag n) forward t = on (with_tag n t)
  act_told full at go next on skips (acts.OnlyTag n) forward t = on (with_only_tag n t)
  act_told full at go next on skips (acts.DelTag n) forward t = on (without_tag n t)

  module _ (full : List Rule) (beside : List (List ℕ)) (are : AreBeside spots c beside) where
    -- the numbers at a place
    numbers_here : (at : ℕ) (numbers : List ℕ) (rest : List (List ℕ)) → drop at beside ≡ numbers ∷ rest → numbers_at spots (record { chain = c; rule = at }) ≡ numbers
    numbers_here at numbers rest left =
        let same : at + 0 ≡ at = omega arith in
        are at ∙ ap (λ n. get_or beside n []) (sym same) ∙ sym (get_or-drop at beside 0 []) ∙ ap (λ l. get_or l 0 []) left

    -- rules n places behind the place at, with what is beside them
    rules_told : (at n : ℕ) (rules rest : List Rule) (numbers left : List (List ℕ)) → drop (at + n) full ≡ rules ++ rest → drop (at + n) beside ≡ numbers ++ left
        → AreForward at n rules → (t : Transit)
        → from (at + n) (drop (at + n) full) 0 t ≡ told_through used enter spots c site p k stage full at n rules numbers t
    rules_told at n [] rest numbers left stand bear forward t = refl
    rules_told at n (r ∷ rs) rest [] left stand bear forward t = refl
    rules_told at n (r ∷ rs) rest (l ∷ numbers) left stand bear forward t =
        let here = at + n in
        let next = at + suc n in
        let h = holds r.cond (sees site k stage t) in
        let go = from next (drop next full) in
        let through = told_through used enter spots c site p k stage full at (suc n) rs numbers in
        let one : here + 1 ≡ next = omega arith in
        let one_more : suc here ≡ next = omega arith in
        let stand_on : drop next full ≡ rs ++ rest = ap (λ m. drop m full) (sym one) ∙ sym (drop-drop 1 here full) ∙ ap (drop 1) stand in
        let bear_on : drop next beside ≡ numbers ++ left = ap (λ m. drop m beside) (sym one) ∙ sym (drop-drop 1 here beside) ∙ ap (drop 1) bear in
        let on : (u : Transit) → go 0 u ≡ through u = rules_told at (suc n) rs rest numbers left stand_on bear_on forward.1 in
        ap (λ rules. from here rules 0 t) stand
        ∙ first_rule here r (rs ++ rest) t
        ∙ ap (λ ns. cond h (ns ++ told_behind tells enter (from (suc here) (rs ++ rest)) (step_of p k r.act t)) (from (suc here) (rs ++ rest) 0 t)) (numbers_here here l (numbers ++ left) bear)
        ∙ ap (λ m. cond h (l ++ told_behind tells enter (from m (rs ++ rest)) (step_of p k r.act t)) (from m (rs ++ rest) 0 t)) one_more
        ∙ ap (λ rules. cond h (l ++ told_behind tells enter (from next rules) (step_of p k r.act t)) (from next rules 0 t)) (sym stand_on)
        ∙ ap (λ ns. cond h (l ++ ns) (go 0 t))
        (act_told full here go through on (λ to lt u. later full next to (omega (arith, lt)) u) r.act forward.0 t)
        ∙ ap (cond h (l ++ told_act used enter spots c site p k stage full through r.act t)) (on t)

    -- rules at a place
    pub rules_tell : (at : ℕ) (rules : List Rule) (numbers : List (List ℕ)) → StandAt full at rules → StandBeside beside at numbers → AreForward at 0 rules → (t : Transit)
        → from at (drop at full) 0 t ≡ told_through used enter spots c site p k stage full at 0 rules numbers t
    rules_tell at rules numbers s b forward t =
        let same : at ≡ at + 0 = omega arith in
        ap (λ n. from n (drop n full) 0 t) same
        ∙ rules_told at 0 rules s.rest numbers b.rest (ap (λ n. drop n full) (sym same) ∙ s.are) (ap (λ n. drop n beside) (sym same) ∙ b.are) forward t

-- Stages

module _ (spots : List Spot) (chains : List Chain) (site : Site) (p : Packet) (k : Kind) where
  behind_stage : (stages : List Stage) → ((t : Transit) → told spots (stages_used chains site p k stages t) ≡ stages_told spots chains site p k stages t) → (o : Option Transit)
      → told spots (option_map_or (stages_used chains site p k stages) o []) ≡ option_map_or (stages_told spots chains site p k stages) o []
  behind_stage stages alike None = refl
  behind_stage stages alike (Some t) = alike t

  each_stage : (stages : List Stage) (t : Transit) → told spots (stages_used chains site p k stages t) ≡ stages_told spots chains site p k stages t
  each_stage [] t = refl
  each_stage (stage ∷ stages) t =
      let here = stage_used chains site p k stage t in
      let o = stage_walk chains site p k stage t in
      told_joined spots here (option_map_or (stages_used chains site p k stages) o [])
      ∙ ap (λ l. told spots here ++ l) (behind_stage stages (each_stage stages) o)

  -- behind routing
  routed : (deliver forward : List Stage) (e : Exit) (t : Transit)
      → told spots (used_onwards (stages_used chains site p k deliver) (stages_used chains site p k forward) e t)
      ≡ used_onwards (stages_told spots chains site p k deliver) (stages_told spots chains site p k forward) e t
  routed deliver forward Deliver t = each_stage deliver t
  routed deliver forward (Out entry) t = each_stage forward t
  routed deliver forward Lost t = refl

  -- behind what arrives
  behind_arrival : (deliver forward : List Stage) (o : Option Transit)
      → told spots (option_map_or (λ t. used_onwards (stages_used chains site p k deliver) (stages_used chains site p k forward) (exit_at site p.entry t.packet.dst) t) o [])
      ≡ option_map_or (λ t. used_onwards (stages_told spots chains site p k deliver) (stages_told spots chains site p k forward) (exit_at site p.entry t.packet.dst) t) o []
  behind_arrival deliver forward None = refl
  behind_arrival deliver forward (Some t) = routed deliver forward (exit_at site p.entry t.packet.dst) t

  pub by_stages : (arrive deliver forward send : List Stage)
      → told spots
      (used_by (stages_walk chains site p k arrive) (stages_used chains site p k arrive) (stages_used chains site p k deliver) (stages_used chains site p k forward)
      (stages_used chains site p k send) site p)
      ≡ used_by (stages_walk chains site p k arrive) (stages_told spots chains site p k arrive) (stages_told spots chains site p k deliver)
      (stages_told spots chains site p k forward) (stages_told spots chains site p k send) site p
  by_stages arrive deliver forward send =
      let b = nat_eq p.entry 0 in
      let o = stages_walk chains site p k arrive (entered p) in
      let arriving = stages_used chains site p k arrive (entered p) in
      let behind = option_map_or (λ t. used_onwards (stages_used chains site p k deliver) (stages_used chains site p k forward) (exit_at site p.entry t.packet.dst) t) o [] in
      told_by spots b (stages_used chains site p k send (entered p)) (arriving ++ behind)
      ∙ ap (λ l. cond b l (told spots (arriving ++ behind))) (each_stage send (entered p))
      ∙ ap (cond b (stages_told spots chains site p k send (entered p)))
      (told_joined spots arriving behind
      ∙ ap (λ l. l ++ told spots behind) (each_stage arrive (entered p))
      ∙ ap (λ l. stages_told spots chains site p k arrive (entered p) ++ l) (behind_arrival deliver forward o))
