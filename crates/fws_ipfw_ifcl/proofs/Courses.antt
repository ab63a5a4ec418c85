-- A packet's course through the rules of a pass, and what is kept of it: how it leaves them, or which of them it uses.
use Rattle.std.proofs.Common.{◌≡◌, ℕ, suc, ◌+◌, Bool, cond, List, [], ◌∷◌, ◌++◌, length, refl, sym, ap, ◌∙◌, subst}
use Rattle.fws_net.specs.declared.connection.Kind.{Kind}
use Rattle.fws_net.specs.declared.packet.Packet.{Packet}
use Rattle.fws_net.specs.declared.site.Site.{Site}
use Rattle.fws_net.specs.declared.transit.Transit.{Transit}
use Rattle.fws_net.specs.declared.view.View.{View}
use Rattle.fws_net.specs.Conditions.{holds}
use Rattle.fws_ifcl.specs.declared.diagram.Act.{Act}
use Rattle.fws_ifcl.specs.declared.diagram.Act.TheVariants as acts
use Rattle.fws_ifcl.specs.declared.diagram.Rule.{Rule}
use Rattle.fws_ifcl.specs.declared.diagram.Stage.{Stage}
use Rattle.fws_ifcl.specs.declared.step.ChainEnd.{ChainEnd}
use Rattle.fws_ifcl.specs.declared.step.Step.{Step}
use Rattle.fws_ifcl.specs.declared.step.Step.TheVariants as steps
use Rattle.fws_ifcl.specs.Walk.{sees, step_of}
use Rattle.fws_ifcl_rules.specs.Places.{AreForward}
use Rattle.fws_ifcl_rules.specs.UsedPlaces.{untold}
use Rattle.fws_ipfw_ifcl.specs.Diagram.{pass_stage}

-- What is kept

-- of a rule beside which no number stands nothing is noted
abbrev pub noting : {X : Type 0} → (List ℕ → X → X) → List ℕ → X → X
noting note [] x = x
noting note (n ∷ ns) x = note (n ∷ ns) x

-- numbers beside the first of rules, and nothing beside the others
abbrev pub headed : List ℕ → List Rule → List (List ℕ)
headed numbers [] = []
headed numbers (r ∷ rs) = numbers ∷ untold rs

-- a packet of class k that entered as p, at a stage: what is kept where it leaves a chain, of a rule with numbers, of a chain that is
-- called and one that is gone to, and from a place on
module _ {X : Type 0} (leave : ChainEnd → X) (note : List ℕ → X → X) (call : (Transit → X) → ℕ → Transit → X) (switch : ℕ → Transit → X) (go : ℕ → Transit → X)
    (site : Site) (p : Packet) (k : Kind) (stage : Stage) where
  abbrev pub kept_step : (Transit → X) → Step → X
  kept_step next (steps.Leave end) = leave end
  kept_step next (steps.Onwards to t) = next t
  kept_step next (steps.Enter c t) = call next c t
  kept_step next (steps.Switch c t) = switch c t

  -- behind an act
  abbrev pub kept_act : (Transit → X) → Act → Transit → X
  kept_act next (acts.Skip to) t = go to t
  kept_act next act t = kept_step next (step_of p k act t)

  -- through rules with numbers beside them, of which the first stands n places behind the place at
  abbrev pub kept_through : ℕ → ℕ → List Rule → List (List ℕ) → Transit → X
  kept_through at n [] beside t = go (at + n) t
  kept_through at n (r ∷ rs) [] t = go (at + n) t
  kept_through at n (r ∷ rs) (numbers ∷ beside) t =
      cond (holds r.cond (sees site k stage t)) (noting note numbers (kept_act (kept_through at (suc n) rs beside) r.act t)) (kept_through at (suc n) rs beside t)

-- a course of a pass, and what is kept of it
pub record Course (X : Type 0) (k : Kind) (outward : Bool) : Type 1 where
  pub site : Site
  pub p : Packet
  pub leave : ChainEnd → X
  pub note : List ℕ → X → X
  pub call : (Transit → X) → ℕ → Transit → X
  pub switch : ℕ → Transit → X
  pub go : ℕ → Transit → X
  -- rules stand at a place, with these numbers beside them
  pub Stand : ℕ → List Rule → List (List ℕ) → Type 0
  pub apart : {at : ℕ} (next : ℕ) (xs ys : List Rule) (us vs : List (List ℕ)) → Stand at (xs ++ ys) (us ++ vs) → at + length xs ≡ next → length us ≡ length xs
      → Stand at xs us × Stand next ys vs
  pub through : {at : ℕ} (numbers : List ℕ) (rules : List Rule) → Stand at rules (headed numbers rules) → AreForward at 0 rules → (t : Transit)
      → go at t ≡ kept_through leave note call switch go site p k (pass_stage outward) at 0 rules (headed numbers rules) t

-- Rules that stand at a place

untold_many : (rules : List Rule) → length (untold rules) ≡ length rules
untold_many [] = refl
untold_many (r ∷ rs) = ap suc (untold_many rs)

untold_joined : (xs ys : List Rule) → untold (xs ++ ys) ≡ untold xs ++ untold ys
untold_joined [] ys = refl
untold_joined (x ∷ xs) ys = ap (λ l. [] ∷ l) (untold_joined xs ys)

headed_many : (numbers : List ℕ) (rules : List Rule) → length (headed numbers rules) ≡ length rules
headed_many numbers [] = refl
headed_many numbers (r ∷ rs) = ap suc (untold_many rs)

headed_none : (rules : List Rule) → headed [] rules ≡ untold rules
headed_none [] = refl
headed_none (r ∷ rs) = refl

module _ {X : Type 0} {k : Kind} {outward : Bool} (w : Course X k outward) where
  -- what the rules see
  abbrev pub sight : Transit → View
  sight t = sees w.site k (pass_stage outward) t

  -- what is kept from a place on
  abbrev pub run : ℕ → Transit → X
  run at t = w.go at t

  -- rules stand at a place, without numbers
  abbrev pub Stands : ℕ → List Rule → Type 0
  Stands at rules = w.Stand at rules (untold rules)

  -- and with numbers beside the first of them
  abbrev pub Heads : List ℕ → ℕ → List Rule → Type 0
  Heads numbers at rules = w.Stand at rules (headed numbers rules)

  -- the course goes through them
  pub walked : {at : ℕ} {rules : List Rule} → Stands at rules → AreForward at 0 rules → (t : Transit)
      → run at t ≡ kept_through w.leave w.note w.call w.switch w.go w.site w.p k (pass_stage outward) at 0 rules (untold rules) t
  walked {at} {rules} s forward t =
      w.through [] rules (subst (w.Stand at rules) (sym (headed_none rules)) s) forward t
      ∙ ap (λ beside. kept_through w.leave w.note w.call w.switch w.go w.site w.p k (pass_stage outward) at 0 rules beside t) (headed_none rules)

  -- each of two parts stands where it begins
  pub parted : {at : ℕ} (next : ℕ) (xs ys : List Rule) → Stands at (xs ++ ys) → at + length xs ≡ next → Stands at xs × Stands next ys
  parted {at} next xs ys s place = w.apart next xs ys (untold xs) (untold ys) (subst (w.Stand at (xs ++ ys)) (untold_joined xs ys) s) place (untold_many xs)

  -- the numbers stand beside the first part, where it has a rule
  pub head_parted : {at : ℕ} (numbers : List ℕ) (next : ℕ) (x : Rule) (xs ys : List Rule) → Heads numbers at ((x ∷ xs) ++ ys) → at + suc (length xs) ≡ next
      → Heads numbers at (x ∷ xs) × Stands next ys
  head_parted {at} numbers next x xs ys s place =
      w.apart next (x ∷ xs) ys (numbers ∷ untold xs) (untold ys) (subst (λ l. w.Stand at ((x ∷ xs) ++ ys) (numbers ∷ l)) (untold_joined xs ys) s) place (ap suc (untold_many xs))

  -- without numbers
  pub no_head : (at : ℕ) (rules : List Rule) → Stands at rules → Heads [] at rules
  no_head at rules s = subst (w.Stand at rules) (sym (headed_none rules)) s

  pub unheaded : (at : ℕ) (rules : List Rule) → Heads [] at rules → Stands at rules
  unheaded at rules s = subst (w.Stand at rules) (headed_none rules) s
