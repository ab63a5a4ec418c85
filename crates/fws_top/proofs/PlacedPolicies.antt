-- From the text of a configuration to a diagram in which its rules have places, and to code that tells of them.
use Rattle.std.proofs.Common.{◌≡◌, ℕ, true, Option, None, Result, Ok, IfOk, List, length, sym, subst, ap, ◌∙◌}
use Rattle.fws_ifcl.specs.declared.diagram.Place.{Place}
use Rattle.fws_ifcl.specs.declared.diagram.Spot.{Spot}
use Rattle.fws_ifcl.specs.Soundness.{ifcl_ok}
use Rattle.fws_ifcl.specs.Spots.{are_spots_of, told}
use Rattle.fws_ifcl.specs.Uses.{used_places}
use Rattle.fws_ifcl.specs.Walk.{means as diagram_means}
use Rattle.fws_net.specs.declared.cause.Cause.{Cause}
use Rattle.fws_net.specs.declared.connection.Conn.{Conn}
use Rattle.fws_net.specs.declared.connection.Kind.{Kind}
use Rattle.fws_net.specs.declared.packet.Packet.{Packet}
use Rattle.fws_net.specs.declared.site.Site.{Site}
use Rattle.fws_net.specs.Reading.{Refusal}
use Rattle.fws_top.specs.declared.placed.Placed.{Placed}
use Rattle.fws_top.specs.declared.placed.PlacedCode.{PlacedCode}
use Rattle.fws_top.specs.Judged.{ChainRefusal, IsPacketOf, Judged, Policy, diagram_refusal, judged_by, judged_chains}
use Rattle.fws_top.specs.PlacedCodes.{IsPlaced, IsPlacedCode, IsToldBy, IsUnfoldedOf}
use Rattle.fws_top.specs.Plan.{judged}
use Rattle.fws_top.specs.Walked.{Uses, Walk}
use Rattle.fws_why.specs.Walked.{IsWalkOf}
use Rattle.fws_why.specs.WhyText.{why_text}

-- a diagram of a configuration that means a policy
pub placed_policy : (site : Site) (refusal : Option ChainRefusal) (policy : Policy) (placed : Placed)
    → ifcl_ok placed.diagram ≡ true → diagram_refusal placed.diagram ≡ refusal
    → (refusal ≡ None → (p : Packet) (k : Kind) → IsPacketOf site p → diagram_means placed.diagram site p k ≡ policy.walk p k)
    → are_spots_of placed.diagram (length policy.labels) placed.spots.items ≡ true
    → (refusal ≡ None → (p : Packet) (k : Kind) → IsPacketOf site p → told placed.spots.items (used_places placed.diagram site p k) ≡ policy.used p k)
    → placed.labels.items ≡ policy.labels → IsPlaced (judged_chains refusal policy) site placed
placed_policy site refusal policy placed ok same means spots uses labelled = record {
  ok = ok;
  policy = policy;
  judged = ap (λ o. judged_chains o policy) (sym same);
  does = λ unrefused. means (sym same ∙ unrefused);
  tells = λ unrefused. uses (sym same ∙ unrefused);
  spots = spots;
  labels = labelled;
}

-- it is the diagram of the text that spells the configuration
pub placed_text : {C : Type 0} → (site : Site) (refusal : C → Option ChainRefusal) (meant : C → Policy) (read : Result C (Refusal Cause)) (config : C) (placed : Placed)
    → read ≡ Ok config → IsPlaced (judged_chains (refusal config) (meant config)) site placed → IsPlaced (judged_by refusal meant read) site placed
placed_text site refusal meant read config placed given is = subst (λ r. IsPlaced (judged_by refusal meant r) site placed) (sym given) is

-- the code of such a diagram
pub told_code : (name : List ℕ) (site : Site) (text : Judged) (placed : Placed) (code : PlacedCode) → IsPlaced text site placed → IsUnfoldedOf placed code
    → IsPlacedCode (judged name text) site code
told_code name site text placed code is made =
    let unrefused = made.unfolded.unrefused in
    record {
      policy = is.policy;
      told = record {
        walk = record {
          walks = λ p k of_site. made.unfolded.does site p k ∙ is.does unrefused p k of_site.entered;
          uses = λ p k of_site.
              ap (told code.spots.items) (made.unfolded.stands site p k) ∙ ap (λ spots. told spots (used_places placed.diagram site p k)) made.spots
              ∙ is.tells unrefused p k of_site.entered;
        };
        labels = made.labels ∙ is.labels;
      };
      chooses = λ next. ap (λ j. judged name j next) is.judged ∙ ap (λ o. judged name (judged_chains o is.policy) next) unrefused;
    }

-- what is said by the code, whose lists are lent, is said by the policy
pub explained_by : {E : Type 0} → (site : Site) (policy : Policy) (code : PlacedCode) (from : List (Option Place)) (spots : List Spot) (labels : List (List ℕ)) (conns : List Conn) (packets : List Packet)
    (result : Result (List ℕ) E) → IsToldBy policy site code → from ≡ code.from.items → spots ≡ code.spots.items → labels ≡ code.labels.items
    → ((walk : Walk) (used : Uses) → IsWalkOf site code.flat from spots walk used → IfOk result (λ text. text ≡ why_text walk used labels conns packets))
    → IfOk result (λ text. text ≡ why_text policy.walk policy.used policy.labels conns packets)
explained_by site policy code from spots labels conns packets result told same_from same_spots same_labels said =
    let walk : IsWalkOf site code.flat from spots policy.walk policy.used =
    subst (λ f. IsWalkOf site code.flat f spots policy.walk policy.used) (sym same_from)
    (subst (λ s. IsWalkOf site code.flat code.from.items s policy.walk policy.used) (sym same_spots) told.walk) in
    subst (λ l. IfOk result (λ text. text ≡ why_text policy.walk policy.used l conns packets)) (same_labels ∙ told.labels) (said policy.walk policy.used walk)
