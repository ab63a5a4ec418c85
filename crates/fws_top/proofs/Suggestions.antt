-- What does the same as tables gives their fates.
use Rattle.std.proofs.Common.{◌≡◌, true, Option, Some, None, IfSome, unwrap_or, sym, ap, ◌∙◌}
use Rattle.fws_dead.specs.Compared.{AreSame}
use Rattle.fws_flat.specs.declared.code.Flat.{Flat}
use Rattle.fws_flat.specs.Soundness.{flat_ok}
use Rattle.fws_ifcl.specs.declared.diagram.Ifcl.{Ifcl}
use Rattle.fws_ifcl.specs.Walk.{means as diagram_means}
use Rattle.fws_net.specs.declared.connection.Kind.{Kind}
use Rattle.fws_net.specs.declared.connection.Kind.TheVariants.{New, Est}
use Rattle.fws_net.specs.declared.outcome.Outcome.TheVariants.{Drop}
use Rattle.fws_net.specs.declared.packet.Packet.{Packet}
use Rattle.fws_net.specs.declared.site.Site.{Site}
use Rattle.fws_net.specs.Connections.{fate_in}
use Rattle.fws_top.specs.Codes.{Does, IsUnfolded}
use Rattle.fws_top.specs.Judged.{ChainRefusal, IsPacketOf, diagram_refusal}
use Rattle.fws_top.specs.Translations.{GivesFates}
use Rattle.fws_top.specs.Walked.{AreTablesOf, Walk}
use Rattle.fws_trace.specs.Outcomes.{no_ends, outcome_by, point_with}
use Rattle.fws_tree.specs.declared.tables.Tables.{Tables}

-- a walk gives the fates of tables that do the same as its own
pub alike_give_fates : (site : Site) (tables made : Tables) (walk : Walk)
    → AreTablesOf site walk made → AreSame site (outcome_by tables) (outcome_by made) → GivesFates site tables walk
alike_give_fates site tables made walk of_walk alike = record {
  new = λ p inside. ap (λ o. fate_in (unwrap_or o Drop) p New) (sym (of_walk.fresh_walked (point_with p no_ends) inside)) ∙ sym (alike p New inside);
  established = λ p r inside. ap (λ o. fate_in (unwrap_or o Drop) p (Est r)) (sym (of_walk.est_walked (point_with p r) inside)) ∙ sym (alike p (Est r) inside);
}

-- the code of a diagram that does what a walk says, if there is one
pub unfolded_ok : (d : Ifcl) (code : Option Flat) → IfSome code (IsUnfolded d) → IfSome code (λ flat. flat_ok flat ≡ true)
unfolded_ok d None unfolded = tt
unfolded_ok d (Some flat) unfolded = unfolded.ok

pub unfolded_does : (site : Site) (d : Ifcl) (walk : Walk) (refusal : Option ChainRefusal) (code : Option Flat)
    → diagram_refusal d ≡ refusal → (refusal ≡ None → (p : Packet) (k : Kind) → IsPacketOf site p → diagram_means d site p k ≡ walk p k)
    → IfSome code (IsUnfolded d) → IfSome code (λ flat. Does flat site walk)
unfolded_does site d walk refusal None same means unfolded = tt
unfolded_does site d walk refusal (Some flat) same means unfolded = λ p k inside. unfolded.does site p k ∙ means (sym same ∙ unfolded.unrefused) p k inside
