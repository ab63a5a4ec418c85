-- Chains whose code is put together from its end, and those of them that wait for a chain that a rule of theirs enters.
use Rattle.std.specs.Prelude.{◌≡◌, ℕ, ◌+◌, ◌-◌, ◌<◌, ◌≤◌, Option, Some, None, List, [], ◌∷◌, drop, get_or, length}
use Rattle.fws_ifcl.specs.declared.diagram.Chain.{Chain}
use Rattle.fws_ifcl.specs.declared.diagram.Rule.{Rule}
use Rattle.fws_ifcl.specs.Walk.{rules_at}
use Rattle.fws_unfold.specs.declared.draft.Draft.{Draft}
use Rattle.fws_unfold.specs.declared.frame.Frame.{Frame}
use Rattle.fws_unfold.specs.declared.frame.Stepped.{Stepped}
use Rattle.fws_unfold.specs.declared.frame.Stepped.TheVariants.{Whole, Onwards, Entered}
use Rattle.fws_unfold.specs.Drafts.{Does, walk_of, walk_from, call_of, AreStarts}
use Rattle.fws_unfold.specs.Used.{Uses, used_of, used_from, AreUsedStarts}

-- the rules of a frame's chain
abbrev pub rules_of : List Chain → Frame → List Rule
rules_of chains f = rules_at chains f.chain

-- those of them that are put
abbrev pub put_of : List Chain → Frame → List Rule
put_of chains f = drop f.left (rules_of chains f)

-- the rules that are put stand before the code that was there when the chain was begun
pub record IsPut (chains : List Chain) (f : Frame) (old code : List Draft) : Type 0 where
  pub does : Does (λ s. walk_from chains s f.left (put_of chains f)) f.back old code
  pub uses : Uses (λ s. used_from chains f.chain s f.left (put_of chains f)) (λ s. walk_from chains s f.left (put_of chains f)) f.back old code
  pub starts : AreStarts chains (rules_of chains f) f.back old code f.starts
  pub used_starts : AreUsedStarts chains f.chain (rules_of chains f) f.back old code f.starts
  pub counted : length f.starts + f.left ≡ length (rules_of chains f)
  pub known : f.chain < length chains
  pub low : f.back ≤ length old

-- chain c was begun before this code, to go on where so many instructions stand, and its frame's rules are put
pub record Begun (chains : List Chain) (f : Frame) (code : List Draft) (c back : ℕ) (old : List Draft) : Type 0 where
  pub chain : f.chain ≡ c
  pub ends : f.back ≡ back
  pub put : IsPut chains f old code

-- the whole of chain c stands before this code, and goes on where so many instructions stand
pub record IsWhole (chains : List Chain) (code : List Draft) (c back : ℕ) (old : List Draft) : Type 0 where
  pub does : Does (λ s. walk_of chains s c) back old code
  pub uses : Uses (λ s. used_of chains s c) (λ s. walk_of chains s c) back old code

-- the frame of chain c waits: its last rule that isn't put enters a chain for which P holds, with where that one goes on
-- and the code before which it stands
pub record Waits (chains : List Chain) (P : ℕ → ℕ → List Draft → Type 0) (f : Frame) (c back : ℕ) (old : List Draft) : Type 0 where
  pub code : List Draft
  pub begun : Begun chains f code c back old
  pub next : f.next ≡ length code
  pub some : 0 < f.left
  pub enters : ℕ
  pub far : ℕ
  pub called : (d : Rule) → Some (enters, far) ≡ call_of (get_or (rules_of chains f) (f.left - 1) d).act f.next f.back
  pub inner : P enters far code

-- each frame waits for the chain of the next one, and the last for a chain for which P holds
abbrev pub Waiting : List Chain → (ℕ → ℕ → List Draft → Type 0) → List Frame → ℕ → ℕ → List Draft → Type 0
Waiting chains P [] c back old = P c back old
Waiting chains P (f ∷ fs) c back old = Waits chains (Waiting chains P fs) f c back old

-- what a step of a frame comes to
abbrev pub StepIs : List Chain → Stepped → List Draft → ℕ → ℕ → List Draft → Type 0
StepIs chains Whole code c back old = IsWhole chains code c back old
StepIs chains (Onwards f) code c back old = Begun chains f code c back old
StepIs chains (Entered f g) code c back old = Waits chains (Begun chains g code) f c back old

-- the frame that comes next, for which those of the stack wait; where there is none the whole chain is put
abbrev pub TurnIs : List Chain → Option Frame → List Frame → List Draft → ℕ → ℕ → List Draft → Type 0
TurnIs chains None fs code c back old = IsWhole chains code c back old
TurnIs chains (Some f) fs code c back old = Waiting chains (Begun chains f code) fs c back old

-- a chain, where it goes on and the code before which it stands, for which P holds
pub record Somewhere (P : ℕ → ℕ → List Draft → Type 0) : Type 0 where
  pub chain : ℕ
  pub back : ℕ
  pub old : List Draft
  pub holds : P chain back old
