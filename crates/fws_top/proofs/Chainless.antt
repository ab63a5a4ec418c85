-- The diagrams of systems without chains of their own: none is refused, and each does what the walk says.
use Rattle.std.proofs.Common.{◌≡◌, ℕ, true, Option, None, Result, Ok, Err, IfOk, List, option_map, ap, sym, subst}
use Rattle.fws_ifcl.specs.declared.diagram.Ifcl.{Ifcl}
use Rattle.fws_ifcl.specs.declared.diagram.Spot.{Spot}
use Rattle.fws_ifcl.specs.Refusals.{refusal_of}
use Rattle.fws_ifcl.specs.Spots.{are_spots_of, told}
use Rattle.fws_ifcl.specs.Uses.{used_places}
use Rattle.fws_ifcl.specs.Walk.{means}
use Rattle.fws_net.specs.declared.connection.Kind.{Kind}
use Rattle.fws_net.specs.declared.packet.Packet.{Packet}
use Rattle.fws_net.specs.declared.site.Site.{Site}
use Rattle.fws_top.specs.Diagrams.{Draws, ShowsUses}
use Rattle.fws_top.specs.Judged.{ChainRefusal, diagram_refusal, named_refusal}
use Rattle.fws_top.specs.Walked.{Uses, Walk}

pub never_refused : {D E : Type 0} → (result : Result D E) (diagram : D → Ifcl)
    → IfOk result (λ x. refusal_of (diagram x) ≡ None) → IfOk result (λ x. diagram_refusal (diagram x) ≡ None)
never_refused (Ok x) diagram unfolds = ap (option_map (named_refusal (diagram x).chains)) unfolds
never_refused (Err e) diagram unfolds = tt

pub always_draws : {D E : Type 0} → (result : Result D E) (diagram : D → Ifcl) (site : Site) (walk : Walk) (refusal : Option ChainRefusal)
    → IfOk result (λ x. (p : Packet) (k : Kind) → means (diagram x) site p k ≡ walk p k) → IfOk result (λ x. refusal ≡ None → Draws (diagram x) site walk)
always_draws (Ok x) diagram site walk refusal does = λ unrefused p k inside. does p k
always_draws (Err e) diagram site walk refusal does = tt

pub always_shows : {D E : Type 0} → (result : Result D E) (diagram : D → Ifcl) (spots : D → List Spot) (site : Site) (used : Uses) (refusal : Option ChainRefusal)
    → IfOk result (λ x. (p : Packet) (k : Kind) → told (spots x) (used_places (diagram x) site p k) ≡ used p k)
    → IfOk result (λ x. refusal ≡ None → ShowsUses (diagram x) (spots x) site used)
always_shows (Ok x) diagram spots site used refusal shows = λ unrefused p k inside. shows p k
always_shows (Err e) diagram spots site used refusal shows = tt

-- spots are those of as many rules as there are labels
pub spots_labelled : {D E : Type 0} → (result : Result D E) (diagram : D → Ifcl) (spots : D → List Spot) (labels rules : ℕ) → labels ≡ rules
    → IfOk result (λ x. are_spots_of (diagram x) rules (spots x) ≡ true) → IfOk result (λ x. are_spots_of (diagram x) labels (spots x) ≡ true)
spots_labelled (Ok x) diagram spots labels rules same are = subst (λ n. are_spots_of (diagram x) n (spots x) ≡ true) (sym same) are
spots_labelled (Err e) diagram spots labels rules same are = tt
