-- A packet's course by what is told of the rules of a pass that it uses.
use Rattle.std.proofs.Common.{◌≡◌, ℕ, suc, Bool, cond, List, [], ◌∷◌, ◌++◌, arith, refl, sym, ap, ◌∙◌}
use Rattle.fws_net.specs.declared.connection.Kind.{Kind}
use Rattle.fws_net.specs.declared.packet.Packet.{Packet}
use Rattle.fws_net.specs.declared.site.Site.{Site}
use Rattle.fws_net.specs.declared.transit.Transit.{Transit}
use Rattle.fws_net.specs.Conditions.{holds}
use Rattle.fws_net.specs.Transits.{with_verdict, with_src, with_dst, with_tracked_src, with_tracked_dst, with_tag, with_only_tag, without_tag}
use Rattle.fws_ifcl.specs.declared.diagram.Act.{Act}
use Rattle.fws_ifcl.specs.declared.diagram.Act.TheVariants as acts
use Rattle.fws_ifcl.specs.declared.diagram.Place.{Place}
use Rattle.fws_ifcl.specs.declared.diagram.Rule.{Rule}
use Rattle.fws_ifcl.specs.declared.diagram.Spot.{Spot}
use Rattle.fws_ifcl.specs.declared.step.ChainEnd.{ChainEnd}
use Rattle.fws_ifcl.specs.declared.step.ChainEnd.TheVariants.{Accepted, Dropped, Through}
use Rattle.fws_ifcl.specs.Spots.{told}
use Rattle.fws_ifcl.specs.Walk.{sees}
use Rattle.fws_ifcl_rules.specs.Places.{StandAt, WalksGoByPlaces}
use Rattle.fws_ifcl_rules.specs.UsedPlaces.{untold, StandBeside, AreBeside, TellsOfUses, told_back, told_from, told_act, told_through}
use Rattle.fws_ipfw_ifcl.specs.Diagram.{pass_stage}
use Rattle.fws_ipfw_ifcl.proofs.Courses.{Course, noting, headed, kept_act, kept_through}

module _ (used : ℕ → Transit → List Place) (enter : ℕ → Transit → ChainEnd) (spots : List Spot) (site : Site) (p : Packet) (k : Kind) (outward : Bool) (full : List Rule) where
  abbrev go : ℕ → Transit → List ℕ
  go at t = told_from used enter spots 0 site p k (pass_stage outward) full at t

  abbrev switch : ℕ → Transit → List ℕ
  switch c t = told spots (used c t)

  abbrev call : (Transit → List ℕ) → ℕ → Transit → List ℕ
  call next c t = told spots (used c t) ++ told_back next (enter c t)

  abbrev note : List ℕ → List ℕ → List ℕ
  note numbers behind = numbers ++ behind

  abbrev through : ℕ → ℕ → List Rule → List (List ℕ) → Transit → List ℕ
  through at n rules beside t = kept_through (λ end. []) note call switch go site p k (pass_stage outward) at n rules beside t

  noted : (numbers behind : List ℕ) → noting note numbers behind ≡ numbers ++ behind
  noted [] behind = refl
  noted (n ∷ ns) behind = refl

  backs : (f g : Transit → List ℕ) → ((t : Transit) → f t ≡ g t) → (end : ChainEnd) → told_back f end ≡ told_back g end
  backs f g same (Accepted t) = refl
  backs f g same Dropped = refl
  backs f g same (Through t) = same t

  -- an act
  act_same : (f g : Transit → List ℕ) → ((t : Transit) → f t ≡ g t) → (act : Act) (t : Transit)
      → kept_act (λ end. []) note call switch go site p k (pass_stage outward) f act t ≡ told_act used enter spots 0 site p k (pass_stage outward) full g act t
  act_same f g same (acts.Accept) t = refl
  act_same f g same (acts.Drop) t = refl
  act_same f g same (acts.Hold accepts) t = same (with_verdict accepts t)
  act_same f g same (acts.Call c) t = ap (λ l. told spots (used c t) ++ l) (backs f g same (enter c t))
  act_same f g same (acts.Goto c) t = refl
  act_same f g same (acts.Return) t = refl
  act_same f g same (acts.Skip to) t = refl
  act_same f g same (acts.Src e) t = same (with_src p e t)
  act_same f g same (acts.Dst e) t = same (with_dst p e t)
  act_same f g same (acts.RecSrc) t = same (with_tracked_src k t)
  act_same f g same (acts.RecDst) t = same (with_tracked_dst k t)
  act_same f g same (acts.AddTag n) t = same (with_tag n t)
  act_same f g same (acts.OnlyTag n) t = same (with_only_tag n t)
  act_same f g same (acts.DelTag n) t = same (without_tag n t)

  -- rules
  untold_same : (at n : ℕ) (rules : List Rule) (t : Transit)
      → through at n rules (untold rules) t ≡ told_through used enter spots 0 site p k (pass_stage outward) full at n rules (untold rules) t
  untold_same at n [] t = refl
  untold_same at n (r ∷ rs) t =
      let h = holds r.cond (sees site k (pass_stage outward) t) in
      let f = through at (suc n) rs (untold rs) in
      let g = told_through used enter spots 0 site p k (pass_stage outward) full at (suc n) rs (untold rs) in
      ap (λ l. cond h l (f t)) (act_same f g (untold_same at (suc n) rs) r.act t)
      ∙ ap (λ l. cond h (told_act used enter spots 0 site p k (pass_stage outward) full g r.act t) l) (untold_same at (suc n) rs t)

  pub headed_same : (at n : ℕ) (numbers : List ℕ) (rules : List Rule) (t : Transit)
      → through at n rules (headed numbers rules) t ≡ told_through used enter spots 0 site p k (pass_stage outward) full at n rules (headed numbers rules) t
  headed_same at n numbers [] t = refl
  headed_same at n numbers (r ∷ rs) t =
      let h = holds r.cond (sees site k (pass_stage outward) t) in
      let f = through at (suc n) rs (untold rs) in
      let g = told_through used enter spots 0 site p k (pass_stage outward) full at (suc n) rs (untold rs) in
      ap (λ l. cond h l (f t)) (noted numbers (kept_act (λ end. []) note call switch go site p k (pass_stage outward) f r.act t)
      ∙ ap (λ l. numbers ++ l) (act_same f g (untold_same at (suc n) rs) r.act t))
      ∙ ap (λ l. cond h (numbers ++ told_act used enter spots 0 site p k (pass_stage outward) full g r.act t) l) (untold_same at (suc n) rs t)

-- through rules in full, with all these numbers beside them
abbrev pub telling : TellsOfUses → WalksGoByPlaces → (ℕ → Transit → List Place) → (ℕ → Transit → ChainEnd) → (spots : List Spot) → Site → Packet → (k : Kind) (outward : Bool) → List Rule
    → (beside : List (List ℕ)) → AreBeside spots 0 beside → Course (List ℕ) k outward
telling told_law law used enter spots site p k outward full beside are =
    let walks = law enter site p k (pass_stage outward) full in
    let tells = told_law.places used enter spots 0 site p k (pass_stage outward) full beside are in
    record {
      site = site;
      p = p;
      leave = λ end. [];
      note = λ numbers behind. numbers ++ behind;
      call = λ next c t. told spots (used c t) ++ told_back next (enter c t);
      switch = λ c t. told spots (used c t);
      go = λ at t. told_from used enter spots 0 site p k (pass_stage outward) full at t;
      Stand = λ at rules numbers. StandAt full at rules × StandBeside beside at numbers;
      apart = λ {at} next xs ys us vs s place many.
          let first = walks.parts next xs ys s.0 place in
          let second = tells.parts next us vs s.1 (omega (arith, place, many)) in
          ((first.0, second.0), (first.1, second.1));
      through = λ {at} numbers rules s forward t.
          tells.told s.0 s.1 forward t ∙ sym (headed_same used enter spots site p k outward full at 0 numbers rules t);
    }
