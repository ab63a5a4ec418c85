-- Diagrams and flat code of policies in which rules have places.
use Rattle.std.specs.Prelude.{◌≡◌, ℕ, Option, None, List, length, true}
use Rattle.fws_flat.specs.declared.code.Flat.{Flat}
use Rattle.fws_flat.specs.Soundness.{flat_ok}
use Rattle.fws_flat.specs.Uses.{used_places as used_instructions}
use Rattle.fws_flat.specs.Walk.{means}
use Rattle.fws_ifcl.specs.declared.diagram.Ifcl.{Ifcl}
use Rattle.fws_ifcl.specs.declared.diagram.Place.{Place}
use Rattle.fws_ifcl.specs.Soundness.{ifcl_ok}
use Rattle.fws_ifcl.specs.Spots.{are_spots_of}
use Rattle.fws_ifcl.specs.Uses.{used_places}
use Rattle.fws_ifcl.specs.Walk.{means as diagram_means}
use Rattle.fws_net.specs.declared.connection.Kind.{Kind}
use Rattle.fws_net.specs.declared.packet.Packet.{Packet}
use Rattle.fws_net.specs.declared.site.Site.{Site}
use Rattle.fws_top.specs.declared.lang.SourceLang.{SourceLang}
use Rattle.fws_top.specs.declared.placed.Placed.{Placed}
use Rattle.fws_top.specs.declared.placed.PlacedCode.{PlacedCode}
use Rattle.fws_top.specs.Diagrams.{Draws, ShowsUses}
use Rattle.fws_top.specs.Due.{Contents}
use Rattle.fws_top.specs.Judged.{Judged, Policy, diagram_refusal, judge, judged_chains}
use Rattle.fws_top.specs.Plan.{Plan, file_plan}
use Rattle.fws_top.specs.Steps.{Chooses, GoesOn, Step}
use Rattle.fws_unfold.specs.Told.{told as stood_for}
use Rattle.fws_why.specs.Walked.{IsWalkOf}

-- Diagrams

-- the diagram is one of what a text means, with spots for its rules: the text is refused where the diagram is, at a chain of the same
-- name; and else the diagram does what the text means, and its spots show which rules a packet uses
pub record IsPlaced (text : Judged) (site : Site) (placed : Placed) : Type 0 where
  pub ok : ifcl_ok placed.diagram ≡ true
  pub policy : Policy
  pub judged : text ≡ judged_chains (diagram_refusal placed.diagram) policy
  pub does : diagram_refusal placed.diagram ≡ None → Draws placed.diagram site policy.walk
  pub tells : diagram_refusal placed.diagram ≡ None → ShowsUses placed.diagram placed.spots.items site policy.used
  pub spots : are_spots_of placed.diagram (length policy.labels) placed.spots.items ≡ true
  pub labels : placed.labels.items ≡ policy.labels

-- the file is read, and what its text means decides
abbrev pub text_plan : SourceLang → Site → List ℕ → (Judged → Plan) → Plan
text_plan lang site name next = file_plan name (λ bytes. next (judge lang site bytes))

-- the diagram is such a one, and the plan of the file goes on with the text
pub record IsTakenPlaced (lang : SourceLang) (name : List ℕ) (held : Option Contents) (site : Site) (placed : Placed) : Type 0 where
  pub text : Judged
  pub is : IsPlaced text site placed
  pub goes_on : GoesOn (text_plan lang site name) held text

-- Code

-- the code is that of a diagram that can be unfolded, and its instructions are for these places of the diagram
pub record IsUnfoldedFrom (d : Ifcl) (flat : Flat) (from : List (Option Place)) : Type 0 where
  pub ok : flat_ok flat ≡ true
  pub unrefused : diagram_refusal d ≡ None
  pub does : (site : Site) (p : Packet) (k : Kind) → means flat site p k ≡ diagram_means d site p k
  pub stands : (site : Site) (p : Packet) (k : Kind) → stood_for from (used_instructions flat site p k) ≡ used_places d site p k

-- the same, with the spots and labels of the diagram
pub record IsUnfoldedOf (placed : Placed) (code : PlacedCode) : Type 0 where
  pub unfolded : IsUnfoldedFrom placed.diagram code.flat code.from.items
  pub spots : code.spots.items ≡ placed.spots.items
  pub labels : code.labels.items ≡ placed.labels.items

-- the code does what the policy means, shows which of its rules a packet uses, and has their labels
pub record IsToldBy (policy : Policy) (site : Site) (code : PlacedCode) : Type 0 where
  pub walk : IsWalkOf site code.flat code.from.items code.spots.items policy.walk policy.used
  pub labels : code.labels.items ≡ policy.labels

-- the code is such a one of a policy, and the plan is what follows for the policy
pub record IsPlacedCode (plan : Step Policy) (site : Site) (code : PlacedCode) : Type 0 where
  pub policy : Policy
  pub told : IsToldBy policy site code
  pub chooses : Chooses plan policy

-- the code is such a one of a policy, and the plan goes on with the policy
pub record IsTakenPlacedCode (plan : Step Policy) (held : Option Contents) (site : Site) (code : PlacedCode) : Type 0 where
  pub policy : Policy
  pub told : IsToldBy policy site code
  pub goes_on : GoesOn plan held policy
