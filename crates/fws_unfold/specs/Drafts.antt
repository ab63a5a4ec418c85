-- Drafts of instructions. A draft's jump names how many instructions stand from its target on to the end of the code, so
-- that code may be put before other code as it is.
use Rattle.std.specs.Prelude.{◌≡◌, ℕ, ◌≤◌, Bool, true, false, ◌&&◌, not, nat_le, ◌-◌, ◌<◌, slice_get, unwrap_or, drop, Option, Some, None, List, [], ◌∷◌, ◌++◌, length, if◌then◌else◌}
use Rattle.fws_net.specs.declared.packet.Packet.{Packet}
use Rattle.fws_net.specs.declared.connection.Kind.{Kind}
use Rattle.fws_net.specs.declared.site.Site.{Site}
use Rattle.fws_net.specs.declared.transit.Transit.{Transit}
use Rattle.fws_net.specs.Conditions.{holds}
use Rattle.fws_net.specs.Transits.{decided}
use Rattle.fws_ifcl.specs.declared.diagram.Act.{Act}
use Rattle.fws_ifcl.specs.declared.diagram.Act.TheVariants as acts
use Rattle.fws_ifcl.specs.declared.diagram.Chain.{Chain}
use Rattle.fws_ifcl.specs.declared.diagram.Rule.{Rule}
use Rattle.fws_ifcl.specs.declared.diagram.Stage.{Stage}
use Rattle.fws_ifcl.specs.declared.step.ChainEnd.{ChainEnd}
use Rattle.fws_ifcl.specs.declared.step.ChainEnd.TheVariants.{Accepted, Dropped, Through}
use Rattle.fws_ifcl.specs.Walk.{sees, chain_walk, rules_walk}
use Rattle.fws_flat.specs.declared.code.FlatAct.{FlatAct}
use Rattle.fws_flat.specs.declared.code.FlatAct.TheVariants as flat
use Rattle.fws_flat.specs.declared.step.Step.{Step}
use Rattle.fws_flat.specs.declared.step.Step.TheVariants.{Leave, Onwards}
use Rattle.fws_flat.specs.Walk.{step_of}
use Rattle.fws_unfold.specs.declared.draft.Draft.{Draft}
use Rattle.fws_unfold.specs.declared.draft.DraftAct.{DraftAct}
use Rattle.fws_unfold.specs.declared.draft.DraftAct.TheVariants.{Do, Go}

-- a packet of a class at a stage
pub record Scene : Type 0 where
  pub site : Site
  pub packet : Packet
  pub kind : Kind
  pub stage : Stage

-- how a walk goes on behind an act that isn't a jump, whose next instruction has this many from it on
abbrev pub acted : (ℕ → Transit → Option Transit) → ℕ → Step → Option Transit
acted go next (Leave end) = end
acted go next (Onwards to t) = go next t

abbrev pub acted_by : (ℕ → Transit → Option Transit) → ℕ → Packet → Kind → DraftAct → Transit → Option Transit
acted_by go next p k (Do act) t = acted go next (step_of p k act t)
acted_by go next p k (Go to) t = go to t

-- the walk through drafts, from the one on from which this many stand to the end; at the end the verdict so far decides
abbrev pub drafted : Scene → List Draft → ℕ → Transit → Option Transit
drafted s [] n t = decided t
drafted s (i ∷ is) n t =
    if nat_le n (length is) then drafted s is n t
    else if holds i.cond (sees s.site s.kind s.stage t) then acted_by (drafted s is) (length is) s.packet s.kind i.act t
    else drafted s is (length is) t

abbrev pub is_jump : FlatAct → Bool
is_jump (flat.Jump to) = true
is_jump _ = false

-- a draft's jump goes to what stands behind it
abbrev pub act_fits : ℕ → DraftAct → Bool
act_fits behind (Do act) = not (is_jump act)
act_fits behind (Go to) = nat_le to behind

abbrev pub all_fit : List Draft → Bool
all_fit [] = true
all_fit (i ∷ is) = act_fits (length is) i.act && all_fit is

-- What the drafts of chains do

-- goes on behind a chain that was left by its end; a verdict stands
abbrev pub left_by : (Transit → Option Transit) → ChainEnd → Option Transit
left_by go (Accepted t) = Some t
left_by go Dropped = None
left_by go (Through t) = go t

abbrev pub walk_of : List Chain → Scene → ℕ → Transit → ChainEnd
walk_of chains s c t = chain_walk chains s.site s.packet s.kind s.stage (length chains) [] c t

-- the rules from a place on
abbrev pub walk_from : List Chain → Scene → ℕ → List Rule → Transit → ChainEnd
walk_from chains s at rules t = rules_walk (walk_of chains s) s.site s.packet s.kind s.stage at rules 0 t

-- code that other code was put before
pub record IsBehind (old new : List Draft) : Type 0 where
  pub front : List Draft
  pub is : new ≡ front ++ old

-- code put before other code does what a walk does, and then goes on where this many instructions stand
pub record Does (walk : Scene → Transit → ChainEnd) (k : ℕ) (old new : List Draft) : Type 0 where
  pub behind : IsBehind old new
  pub fits : all_fit old ≡ true → all_fit new ≡ true
  pub walks : (s : Scene) (t : Transit) → drafted s new (length new) t ≡ left_by (drafted s old k) (walk s t)

-- the chain that a rule enters, and how many instructions stand where the walk goes on behind it
abbrev pub call_of : Act → ℕ → ℕ → Option (ℕ × ℕ)
call_of (acts.Call c) next back = Some (c, next)
call_of (acts.Goto c) next back = Some (c, back)
call_of _ next back = None

-- what a rule that enters no chain does: a return goes to the end, a skip to a place of its own
abbrev pub plain_act : Act → ℕ → ℕ → DraftAct
plain_act acts.Accept back skip = Do flat.Accept
plain_act acts.Drop back skip = Do flat.Drop
plain_act (acts.Hold accepts) back skip = Do (flat.Hold accepts)
plain_act (acts.Call c) back skip = Go back
plain_act (acts.Goto c) back skip = Go back
plain_act acts.Return back skip = Go back
plain_act (acts.Skip to) back skip = Go skip
plain_act (acts.Src e) back skip = Do (flat.Src e)
plain_act (acts.Dst e) back skip = Do (flat.Dst e)
plain_act acts.RecSrc back skip = Do flat.RecSrc
plain_act acts.RecDst back skip = Do flat.RecDst
plain_act (acts.AddTag n) back skip = Do (flat.AddTag n)
plain_act (acts.OnlyTag n) back skip = Do (flat.OnlyTag n)
plain_act (acts.DelTag n) back skip = Do (flat.DelTag n)

-- Where the rules of a chain begin, the last first

-- how many instructions stand from a beginning on; 0 past the end
abbrev pub height_at : List ℕ → ℕ → ℕ
height_at starts k = unwrap_or (slice_get starts k) 0

-- where the rule begins to which a rule of so many skips
abbrev pub start_of : List ℕ → ℕ → Act → ℕ
start_of starts rules (acts.Skip to) = height_at starts (rules - to)
start_of starts rules _ = 0

-- from the k-th beginning on, counted from the end of the rules, the code does what the last k rules do
abbrev pub AreStarts : List Chain → List Rule → ℕ → List Draft → List Draft → List ℕ → Type 0
AreStarts chains rules back old code starts = (k : ℕ) → k < length starts
    → (height_at starts k ≤ length code)
    × ((s : Scene) (t : Transit) → drafted s code (height_at starts k) t ≡ left_by (drafted s old back) (walk_from chains s (length rules - k) (drop (length rules - k) rules) t))
