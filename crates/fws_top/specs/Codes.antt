-- Flat code of policies.
use Rattle.std.specs.Prelude.{◌≡◌, Option, None, true}
use Rattle.fws_flat.specs.declared.code.Flat.{Flat}
use Rattle.fws_flat.specs.Soundness.{flat_ok}
use Rattle.fws_flat.specs.Walk.{means}
use Rattle.fws_ifcl.specs.declared.diagram.Ifcl.{Ifcl}
use Rattle.fws_ifcl.specs.Walk.{means as diagram_means}
use Rattle.fws_net.specs.declared.connection.Kind.{Kind}
use Rattle.fws_net.specs.declared.packet.Packet.{Packet}
use Rattle.fws_net.specs.declared.site.Site.{Site}
use Rattle.fws_net.specs.RegularWalks.{IsRegularWalk}
use Rattle.fws_top.specs.declared.policy.PolicyCode.{PolicyCode}
use Rattle.fws_top.specs.Due.{Contents}
use Rattle.fws_top.specs.Judged.{IsPacketOf, Policy, diagram_refusal}
use Rattle.fws_top.specs.Steps.{Chooses, GoesOn, Step}
use Rattle.fws_top.specs.Walked.{Walk}

-- the code does with the packets of the site what the walk says
abbrev pub Does : Flat → Site → Walk → Type 0
Does flat site walk = (p : Packet) (k : Kind) → IsPacketOf site p → means flat site p k ≡ walk p k

-- the code does what some regular walk says
abbrev pub DoesRegularly : Flat → Site → Type 0
DoesRegularly flat site = (walk : Walk) × Does flat site walk × IsRegularWalk site walk

-- the code is that of a diagram that can be unfolded
pub record IsUnfolded (d : Ifcl) (flat : Flat) : Type 0 where
  pub ok : flat_ok flat ≡ true
  pub unrefused : diagram_refusal d ≡ None
  pub does : (site : Site) (p : Packet) (k : Kind) → means flat site p k ≡ diagram_means d site p k

-- the code does what a policy with a regular walk means, and tracks as this does; and the plan is what follows for the policy
pub record IsCode (plan : Step Policy) (site : Site) (code : PolicyCode) : Type 0 where
  pub ok : flat_ok code.flat ≡ true
  pub policy : Policy
  pub regular : IsRegularWalk site policy.walk
  pub does : Does code.flat site policy.walk
  pub tracks : code.tracks ≡ policy.tracks
  pub chooses : Chooses plan policy

-- the same, and the plan goes on with the policy
pub record IsTakenCode (plan : Step Policy) (told : Option Contents) (site : Site) (code : PolicyCode) : Type 0 where
  pub ok : flat_ok code.flat ≡ true
  pub policy : Policy
  pub regular : IsRegularWalk site policy.walk
  pub does : Does code.flat site policy.walk
  pub tracks : code.tracks ≡ policy.tracks
  pub goes_on : GoesOn plan told policy
