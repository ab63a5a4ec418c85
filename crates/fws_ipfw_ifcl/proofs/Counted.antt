-- What is told of a pass through the rules of the configuration that has rules that count is what the other configuration uses.
use Rattle.std.proofs.Common.{◌≡◌, ℕ, suc, Bool, true, false, cond, ◌&&◌, nat_lt, List, [], ◌∷◌, refl, sym, ap, ◌∙◌}
use Rattle.std.proofs.lemmas.Bool.{false≢true}
use Rattle.fws_net.specs.declared.connection.Kind.{Kind}
use Rattle.fws_net.specs.declared.packet.Packet.{Packet}
use Rattle.fws_net.specs.declared.site.Site.{Site}
use Rattle.fws_net.specs.declared.transit.Transit.{Transit}
use Rattle.fws_net.specs.Conditions.{holds}
use Rattle.fws_net.specs.Connections.{is_est}
use Rattle.fws_ifcl.specs.declared.diagram.Place.{Place}
use Rattle.fws_ifcl.specs.declared.diagram.Rule.{Rule}
use Rattle.fws_ifcl.specs.declared.diagram.Spot.{Spot}
use Rattle.fws_ifcl.specs.declared.step.ChainEnd.{ChainEnd}
use Rattle.fws_ifcl_rules.specs.Places.{WalksGoByPlaces}
use Rattle.fws_ifcl_rules.specs.UsedPlaces.{AreBeside, TellsOfUses}
use Rattle.fws_ipfw.specs.declared.config.IpfwConfig.{IpfwConfig}
use Rattle.fws_ipfw.specs.declared.config.IpfwRule.{IpfwRule}
use Rattle.fws_ipfw.specs.declared.pass.Pass.{Pass}
use Rattle.fws_ipfw.specs.declared.pass.Step.{Step}
use Rattle.fws_ipfw.specs.declared.pass.Step.TheVariants as steps
use Rattle.fws_ipfw.specs.Soundness.{is_check}
use Rattle.fws_ipfw.specs.Uses.{used_behind, rules_used}
use Rattle.fws_ipfw.specs.Walk.{view_on, tagged, step_of}
use Rattle.fws_ipfw_ifcl.specs.Placed.{looks_up, counting, counted, with_counts}
use Rattle.fws_ipfw_ifcl.proofs.Acting.{ahead}
use Rattle.fws_ipfw_ifcl.proofs.Counting.{numbers_from, none_below, same_step}
use Rattle.fws_ipfw_ifcl.proofs.Courses.{Course}
use Rattle.fws_ipfw_ifcl.proofs.Halves.{or_parts, pass_by}
use Rattle.fws_ipfw_ifcl.proofs.Telling.{telling}

-- a rule that counts, ahead of one at which packets of connections pass
counts_ahead : (n : ℕ) (passed est keep holding low : Bool) (rest met next : List ℕ) → low ≡ false
    → cond passed (cond passed rest (cond (est && keep) [] (cond holding met next)))
    (cond (est && false) []
    (cond holding (n ∷ cond low next (cond (est && keep) [] (cond holding met next))) (cond low next (cond (est && keep) [] (cond holding met next)))))
    ≡ cond passed rest (cond (est && keep) (cond holding (n ∷ []) []) (cond holding (n ∷ met) next))
counts_ahead n true est keep holding low rest met next none = refl
counts_ahead n false true true true false rest met next none = refl
counts_ahead n false true true false false rest met next none = refl
counts_ahead n false true false true false rest met next none = refl
counts_ahead n false true false false false rest met next none = refl
counts_ahead n false false keep true false rest met next none = refl
counts_ahead n false false keep false false rest met next none = refl
counts_ahead n false est keep holding true rest met next none = absurd (false≢true (sym none))

-- a rule at which they don't pass
told_itself : (n : ℕ) (passed est keep holding : Bool) (rest met next : List ℕ) → keep ≡ false
    → cond passed rest (cond (est && keep) [] (cond holding (n ∷ met) next))
    ≡ cond passed rest (cond (est && keep) (cond holding (n ∷ []) []) (cond holding (n ∷ met) next))
told_itself n passed true true holding rest met next other = absurd (false≢true (sym other))
told_itself n passed true false holding rest met next other = refl
told_itself n passed false keep holding rest met next other = refl

module _ (told_law : TellsOfUses) (law : WalksGoByPlaces) (used : ℕ → Transit → List Place) (enter : ℕ → Transit → ChainEnd) (spots : List Spot) (site : Site) (p : Packet) (k : Kind)
    (outward : Bool) (full : List Rule) (beside : List (List ℕ)) (are : AreBeside spots 0 beside) (c : IpfwConfig) where
  abbrev w : Course (List ℕ) k outward
  w = telling told_law law used enter spots site p k outward full beside are

  abbrev d : IpfwConfig
  d = with_counts c

  -- a step
  told_ahead : (f g : ℕ → Pass → List ℕ) → ((to : ℕ) (m : Pass) → f to m ≡ g to m) → (step : Step) → ahead w f step ≡ used_behind g step
  told_ahead f g same (steps.Accepted t) = refl
  told_ahead f g same steps.Dropped = refl
  told_ahead f g same (steps.Onwards to m) = same to m

  -- rules
  pub counted_told : (n : ℕ) (rs : List IpfwRule) (to : ℕ) (m : Pass) → pass_by w d (counted rs) (numbers_from n rs) to m ≡ rules_used c site p k outward n rs to m
  counted_told n [] to m = refl
  counted_told n (r ∷ rs) to m =
      let f = pass_by w d (counted rs) (numbers_from (suc n) rs) in
      let g = rules_used c site p k outward (suc n) rs in
      let passed = nat_lt r.number to in
      let keeps = is_est k && r.keep in
      let h = holds r.cond (view_on site k outward m.transit) in
      let after : Pass = record m { transit = tagged r.tag m.transit } in
      let met = used_behind g (step_of c site p k outward r.act after) in
      let same = counted_told (suc n) rs in
      let same_met : ahead w f (step_of d site p k outward r.act after) ≡ met =
      ap (ahead w f) (same_step c site p k outward r.act after) ∙ told_ahead f g same (step_of c site p k outward r.act after) in
      by_look (looks_up r) refl
      ∙ ap (λ l. cond passed l (cond keeps (cond h (n ∷ []) []) (cond h (n ∷ ahead w f (step_of d site p k outward r.act after)) (f 0 m)))) (same to m)
      ∙ ap (λ l. cond passed (g to m) (cond keeps (cond h (n ∷ []) []) (cond h (n ∷ l) (f 0 m)))) same_met
      ∙ ap (λ l. cond passed (g to m) (cond keeps (cond h (n ∷ []) []) (cond h (n ∷ met) l))) (same 0 m)
    where
      by_look : (b : Bool) → looks_up r ≡ b
          → pass_by w d (cond b (counting r ∷ r ∷ counted rs) (r ∷ counted rs)) ((n ∷ []) ∷ cond b ([] ∷ numbers_from (suc n) rs) (numbers_from (suc n) rs)) to m
          ≡ cond (nat_lt r.number to) (pass_by w d (counted rs) (numbers_from (suc n) rs) to m)
          (cond (is_est k && r.keep) (cond (holds r.cond (view_on site k outward m.transit)) (n ∷ []) [])
          (cond (holds r.cond (view_on site k outward m.transit))
          (n ∷ ahead w (pass_by w d (counted rs) (numbers_from (suc n) rs)) (step_of d site p k outward r.act (record m { transit = tagged r.tag m.transit })))
          (pass_by w d (counted rs) (numbers_from (suc n) rs) 0 m)))
      by_look true look =
          counts_ahead n (nat_lt r.number to) (is_est k) r.keep (holds r.cond (view_on site k outward m.transit)) (nat_lt r.number 0)
          (pass_by w d (counted rs) (numbers_from (suc n) rs) to m)
          (ahead w (pass_by w d (counted rs) (numbers_from (suc n) rs)) (step_of d site p k outward r.act (record m { transit = tagged r.tag m.transit })))
          (pass_by w d (counted rs) (numbers_from (suc n) rs) 0 m)
          (none_below r.number)
      by_look false look =
          told_itself n (nat_lt r.number to) (is_est k) r.keep (holds r.cond (view_on site k outward m.transit))
          (pass_by w d (counted rs) (numbers_from (suc n) rs) to m)
          (ahead w (pass_by w d (counted rs) (numbers_from (suc n) rs)) (step_of d site p k outward r.act (record m { transit = tagged r.tag m.transit })))
          (pass_by w d (counted rs) (numbers_from (suc n) rs) 0 m)
          (or_parts r.keep (is_check r.act) look).0
