-- Which rules the walk through drafts uses.
use Rattle.std.specs.Prelude.{◌≡◌, ℕ, ◌-◌, ◌<◌, nat_le, Option, List, [], ◌∷◌, ◌++◌, length, drop, if◌then◌else◌}
use Rattle.std.specs.Option.{option_map_or}
use Rattle.fws_net.specs.declared.packet.Packet.{Packet}
use Rattle.fws_net.specs.declared.connection.Kind.{Kind}
use Rattle.fws_net.specs.declared.transit.Transit.{Transit}
use Rattle.fws_net.specs.Conditions.{holds}
use Rattle.fws_ifcl.specs.declared.diagram.Chain.{Chain}
use Rattle.fws_ifcl.specs.declared.diagram.Rule.{Rule}
use Rattle.fws_ifcl.specs.declared.diagram.Place.{Place}
use Rattle.fws_ifcl.specs.declared.step.ChainEnd.{ChainEnd}
use Rattle.fws_ifcl.specs.Uses.{used_back, chain_used, rules_used}
use Rattle.fws_ifcl.specs.Walk.{sees}
use Rattle.fws_flat.specs.declared.step.Step.{Step}
use Rattle.fws_flat.specs.declared.step.Step.TheVariants.{Leave, Onwards}
use Rattle.fws_flat.specs.Walk.{step_of}
use Rattle.fws_unfold.specs.declared.draft.Draft.{Draft}
use Rattle.fws_unfold.specs.declared.draft.DraftAct.{DraftAct}
use Rattle.fws_unfold.specs.declared.draft.DraftAct.TheVariants.{Do, Go}
use Rattle.fws_unfold.specs.Drafts.{Scene, walk_of, walk_from, height_at}

-- the rule that an instruction stands for, if it does
abbrev pub stands_for : Option Place → List Place
stands_for rule = option_map_or (λ place. place ∷ []) rule []

-- what is used behind an act that isn't a jump, whose next instruction has this many from it on
abbrev pub used_acted : (ℕ → Transit → List Place) → ℕ → Step → List Place
used_acted go next (Leave end) = []
used_acted go next (Onwards to t) = go next t

abbrev pub used_acted_by : (ℕ → Transit → List Place) → ℕ → Packet → Kind → DraftAct → Transit → List Place
used_acted_by go next p k (Do act) t = used_acted go next (step_of p k act t)
used_acted_by go next p k (Go to) t = go to t

-- the rules whose drafts the walk comes to and whose conditions hold, in their order, from the draft on from which this
-- many stand to the end
abbrev pub drafted_used : Scene → List Draft → ℕ → Transit → List Place
drafted_used s [] n t = []
drafted_used s (i ∷ is) n t =
    if nat_le n (length is) then drafted_used s is n t
    else if holds i.cond (sees s.site s.kind s.stage t) then stands_for i.rule ++ used_acted_by (drafted_used s is) (length is) s.packet s.kind i.act t
    else drafted_used s is (length is) t

abbrev pub used_of : List Chain → Scene → ℕ → Transit → List Place
used_of chains s c t = chain_used chains s.site s.packet s.kind s.stage (length chains) [] c t

-- the rules of chain c from a place on
abbrev pub used_from : List Chain → ℕ → Scene → ℕ → List Rule → Transit → List Place
used_from chains c s at rules t = rules_used (used_of chains s) (walk_of chains s) c s.site s.packet s.kind s.stage at rules 0 t

-- code put before other code uses what a walk uses, and then what is used where this many instructions stand
pub record Uses (used : Scene → Transit → List Place) (walk : Scene → Transit → ChainEnd) (k : ℕ) (old new : List Draft) : Type 0 where
  pub uses : (s : Scene) (t : Transit) → drafted_used s new (length new) t ≡ used s t ++ used_back (drafted_used s old k) (walk s t)

-- from the k-th beginning on, counted from the end of the rules, the code uses what the last k rules use
abbrev pub AreUsedStarts : List Chain → ℕ → List Rule → ℕ → List Draft → List Draft → List ℕ → Type 0
AreUsedStarts chains c rules back old code starts = (k : ℕ) → k < length starts → (s : Scene) (t : Transit)
    → drafted_used s code (height_at starts k) t
    ≡ used_from chains c s (length rules - k) (drop (length rules - k) rules) t ++ used_back (drafted_used s old back) (walk_from chains s (length rules - k) (drop (length rules - k) rules) t)
