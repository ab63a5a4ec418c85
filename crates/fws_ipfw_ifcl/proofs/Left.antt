-- A packet's course by how it leaves the rules of a pass.
use Rattle.std.proofs.Common.{◌≡◌, ℕ, suc, Bool, true, false, cond, ◌&&◌, nat_lt, Option, Some, None, List, [], ◌∷◌, drop, get_or, refl, sym, ap, ◌∙◌}
use Rattle.fws_net.specs.declared.connection.Kind.{Kind}
use Rattle.fws_net.specs.declared.packet.Packet.{Packet}
use Rattle.fws_net.specs.declared.site.Site.{Site}
use Rattle.fws_net.specs.declared.transit.Transit.{Transit}
use Rattle.fws_net.specs.Conditions.{holds}
use Rattle.fws_net.specs.Connections.{is_est}
use Rattle.fws_net.specs.Transits.{with_verdict, with_src, with_dst, with_tracked_src, with_tracked_dst, with_tag, with_only_tag, without_tag}
use Rattle.fws_ifcl.specs.declared.diagram.Act.{Act}
use Rattle.fws_ifcl.specs.declared.diagram.Act.TheVariants as acts
use Rattle.fws_ifcl.specs.declared.diagram.Rule.{Rule}
use Rattle.fws_ifcl.specs.declared.step.ChainEnd.{ChainEnd}
use Rattle.fws_ifcl.specs.declared.step.ChainEnd.TheVariants.{Accepted, Dropped, Through}
use Rattle.fws_ifcl.specs.Walk.{sees, back}
use Rattle.fws_ifcl_rules.specs.Places.{StandAt, WalksGoByPlaces, walk_from, behind_act, walk_through}
use Rattle.fws_ifcl_rules.specs.UsedPlaces.{untold}
use Rattle.fws_ipfw.specs.declared.config.IpfwConfig.{IpfwConfig}
use Rattle.fws_ipfw.specs.declared.config.IpfwRule.{IpfwRule}
use Rattle.fws_ipfw.specs.declared.pass.Pass.{Pass}
use Rattle.fws_ipfw.specs.declared.pass.Step.{Step}
use Rattle.fws_ipfw.specs.declared.pass.Step.TheVariants as steps
use Rattle.fws_ipfw.specs.Walk.{view_on, ended, tagged, step_of, stepped, rules_walk}
use Rattle.fws_ipfw_ifcl.specs.Diagram.{all_rules, pass_stage}
use Rattle.fws_ipfw_ifcl.proofs.Acting.{ahead}
use Rattle.fws_ipfw_ifcl.proofs.Courses.{Course, noting, headed, kept_act, kept_through}
use Rattle.fws_ipfw_ifcl.proofs.Halves.{pass_by}

module _ (enter : ℕ → Transit → ChainEnd) (site : Site) (p : Packet) (k : Kind) (outward : Bool) (full : List Rule) where
  abbrev go : ℕ → Transit → ChainEnd
  go at t = walk_from enter site p k (pass_stage outward) full at t

  -- nothing is kept of numbers
  abbrev note : List ℕ → ChainEnd → ChainEnd
  note numbers end = end

  abbrev call : (Transit → ChainEnd) → ℕ → Transit → ChainEnd
  call next c t = back next (enter c t)

  abbrev through : ℕ → ℕ → List Rule → List (List ℕ) → Transit → ChainEnd
  through at n rules beside t = kept_through (λ end. end) note call enter go site p k (pass_stage outward) at n rules beside t

  noted : (numbers : List ℕ) (end : ChainEnd) → noting note numbers end ≡ end
  noted [] end = refl
  noted (n ∷ ns) end = refl

  backs : (f g : Transit → ChainEnd) → ((t : Transit) → f t ≡ g t) → (end : ChainEnd) → back f end ≡ back g end
  backs f g same (Accepted t) = refl
  backs f g same Dropped = refl
  backs f g same (Through t) = same t

  -- an act
  act_same : (f g : Transit → ChainEnd) → ((t : Transit) → f t ≡ g t) → (act : Act) (t : Transit)
      → kept_act (λ end. end) note call enter go site p k (pass_stage outward) f act t ≡ behind_act enter site p k (pass_stage outward) full g act t
  act_same f g same (acts.Accept) t = refl
  act_same f g same (acts.Drop) t = refl
  act_same f g same (acts.Hold accepts) t = same (with_verdict accepts t)
  act_same f g same (acts.Call c) t = backs f g same (enter c t)
  act_same f g same (acts.Goto c) t = refl
  act_same f g same (acts.Return) t = refl
  act_same f g same (acts.Skip to) t = refl
  act_same f g same (acts.Src e) t = same (with_src p e t)
  act_same f g same (acts.Dst e) t = same (with_dst p e t)
  act_same f g same (acts.RecSrc) t = same (with_tracked_src k t)
  act_same f g same (acts.RecDst) t = same (with_tracked_dst k t)
  act_same f g same (acts.AddTag n) t = same (with_tag n t)
  act_same f g same (acts.OnlyTag n) t = same (with_only_tag n t)
  act_same f g same (acts.DelTag n) t = same (without_tag n t)

  -- rules
  untold_same : (at n : ℕ) (rules : List Rule) (t : Transit) → through at n rules (untold rules) t ≡ walk_through enter site p k (pass_stage outward) full at n rules t
  untold_same at n [] t = refl
  untold_same at n (r ∷ rs) t =
      let h = holds r.cond (sees site k (pass_stage outward) t) in
      let f = through at (suc n) rs (untold rs) in
      let g = walk_through enter site p k (pass_stage outward) full at (suc n) rs in
      ap (λ end. cond h end (f t)) (act_same f g (untold_same at (suc n) rs) r.act t)
      ∙ ap (λ end. cond h (behind_act enter site p k (pass_stage outward) full g r.act t) end) (untold_same at (suc n) rs t)

  pub headed_same : (at n : ℕ) (numbers : List ℕ) (rules : List Rule) (t : Transit)
      → through at n rules (headed numbers rules) t ≡ walk_through enter site p k (pass_stage outward) full at n rules t
  headed_same at n numbers [] t = refl
  headed_same at n numbers (r ∷ rs) t =
      let h = holds r.cond (sees site k (pass_stage outward) t) in
      let f = through at (suc n) rs (untold rs) in
      ap (λ end. cond h end (f t)) (noted numbers (kept_act (λ end. end) note call enter go site p k (pass_stage outward) f r.act t))
      ∙ untold_same at n (r ∷ rs) t

-- through all rules of the diagram
abbrev pub course : WalksGoByPlaces → (ℕ → Transit → ChainEnd) → (site : Site) → Packet → (k : Kind) (outward : Bool) → IpfwConfig → Course ChainEnd k outward
course law enter site p k outward c =
    record {
      site = site;
      p = p;
      leave = λ end. end;
      note = λ numbers end. end;
      call = λ next c t. back next (enter c t);
      switch = enter;
      go = λ at t. walk_from enter site p k (pass_stage outward) (all_rules site c) at t;
      Stand = λ at rules beside. StandAt (all_rules site c) at rules;
      apart = λ next xs ys us vs s place many. (law enter site p k (pass_stage outward) (all_rules site c)).parts next xs ys s place;
      through = λ {at} numbers rules s forward t.
          (law enter site p k (pass_stage outward) (all_rules site c)).walked s forward t ∙ sym (headed_same enter site p k outward (all_rules site c) at 0 numbers rules t);
    }

-- Passes

-- how a pass ends
abbrev pub left_by : Option Transit → ChainEnd
left_by None = Dropped
left_by (Some t) = Accepted t

-- a test within an end
lefts : (b : Bool) (x y : Option Transit) → cond b (left_by x) (left_by y) ≡ left_by (cond b x y)
lefts true x y = refl
lefts false x y = refl

module _ (law : WalksGoByPlaces) (enter : ℕ → Transit → ChainEnd) (site : Site) (p : Packet) (k : Kind) (outward : Bool) (c : IpfwConfig) where
  abbrev w : Course ChainEnd k outward
  w = course law enter site p k outward c

  -- a step
  left_ahead : (f : ℕ → Pass → ChainEnd) (g : ℕ → Pass → Option Transit) → ((to : ℕ) (m : Pass) → f to m ≡ left_by (g to m)) → (step : Step) → ahead w f step ≡ left_by (stepped g step)
  left_ahead f g same (steps.Accepted t) = refl
  left_ahead f g same steps.Dropped = refl
  left_ahead f g same (steps.Onwards to m) = same to m

  -- rules
  pub pass_left : (rs : List IpfwRule) (numbers : List (List ℕ)) (to : ℕ) (m : Pass) → pass_by w c rs numbers to m ≡ left_by (rules_walk c site p k outward rs to m)
  pass_left [] numbers to m = refl
  pass_left (r ∷ rs) numbers to m =
      let f = pass_by w c rs (drop 1 numbers) in
      let g = rules_walk c site p k outward rs in
      let h = holds r.cond (view_on site k outward m.transit) in
      let step = step_of c site p k outward r.act (record m { transit = tagged r.tag m.transit }) in
      let met = cond h (noting w.note (get_or numbers 0 []) (ahead w f step)) (f 0 m) in
      let same = pass_left rs (drop 1 numbers) in
      let inner : met ≡ left_by (cond h (stepped g step) (g 0 m)) =
      ap (λ end. cond h end (f 0 m)) (noted enter site p k outward (all_rules site c) (get_or numbers 0 []) (ahead w f step) ∙ left_ahead f g same step)
      ∙ ap (cond h (left_by (stepped g step))) (same 0 m)
      ∙ lefts h (stepped g step) (g 0 m) in
      ap (λ end. cond (nat_lt r.number to) end (cond (is_est k && r.keep) (Accepted (ended k outward m)) met)) (same to m)
      ∙ ap (λ end. cond (nat_lt r.number to) (left_by (g to m)) (cond (is_est k && r.keep) (Accepted (ended k outward m)) end)) inner
      ∙ ap (cond (nat_lt r.number to) (left_by (g to m))) (lefts (is_est k && r.keep) (Some (ended k outward m)) (cond h (stepped g step) (g 0 m)))
      ∙ lefts (nat_lt r.number to) (g to m) (cond (is_est k && r.keep) (Some (ended k outward m)) (cond h (stepped g step) (g 0 m)))
