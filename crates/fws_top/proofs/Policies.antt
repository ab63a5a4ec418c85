-- From the text of a configuration to flat code.
use Rattle.std.proofs.Common.{◌≡◌, ℕ, Option, Some, None, Result, Ok, List, option_map, sym, subst, ap, ◌∙◌}
use Rattle.fws_ifcl.specs.declared.diagram.Ifcl.{Ifcl}
use Rattle.fws_ifcl.specs.declared.refusal.UnfoldRefusal.{UnfoldRefusal}
use Rattle.fws_ifcl.specs.Refusals.{refusal_of}
use Rattle.fws_ifcl.specs.Walk.{means as diagram_means}
use Rattle.fws_net.specs.declared.cause.Cause.{Cause}
use Rattle.fws_net.specs.declared.connection.Kind.{Kind}
use Rattle.fws_net.specs.declared.packet.Packet.{Packet}
use Rattle.fws_net.specs.declared.site.Site.{Site}
use Rattle.fws_net.specs.Reading.{Refusal}
use Rattle.fws_net.specs.RegularWalks.{IsRegularWalk}
use Rattle.fws_top.specs.Codes.{IsCode, IsUnfolded}
use Rattle.fws_top.specs.declared.answer.Answer.{Answer}
use Rattle.fws_top.specs.declared.answer.Stop.{Stop}
use Rattle.fws_top.specs.declared.answer.Stop.TheVariants.{Due}
use Rattle.fws_top.specs.declared.policy.PolicyCode.{PolicyCode}
use Rattle.fws_top.specs.declared.status.Status.TheVariants as status
use Rattle.fws_top.specs.Due.{IsFaultless}
use Rattle.fws_top.specs.Judged.{ChainRefusal, IsPacketOf, Policy, chain_words, diagram_refusal, judged_by, judged_chains, named_refusal}
use Rattle.fws_top.specs.Lines.{refused_line}
use Rattle.fws_top.specs.Plan.{judged, says}
use Rattle.fws_top.specs.Steps.{EndsIn}

-- an answer that says at which chain a diagram is refused
pub diagram_refused : (name : List ℕ) (d : Ifcl) (policy : Policy) (r : UnfoldRefusal) (a : Answer)
    → refusal_of d ≡ Some r → a.status ≡ status.Refused → a.text ≡ refused_line name (chain_words (named_refusal d.chains r))
    → EndsIn (judged name (judged_chains (diagram_refusal d) policy)) (Due a)
diagram_refused name d policy r a found status_is text_is = (
  subst IsFaultless (sym status_is) tt,
  λ next.
      ap (λ o. judged name (judged_chains (option_map (named_refusal d.chains) o) policy) next) found
      ∙ ap (λ x. says x (refused_line name (chain_words (named_refusal d.chains r)))) (sym status_is) ∙ ap (λ x. says a.status x) (sym text_is),
)

-- code of a diagram that is a configuration's, whose walk is regular
pub policy_code : {C : Type 0} → (name : List ℕ) (site : Site) (refusal : C → Option ChainRefusal) (meant : C → Policy) (read : Result C (Refusal Cause)) (config : C) (d : Ifcl) (code : PolicyCode)
    → IsRegularWalk site (meant config).walk
    → read ≡ Ok config → diagram_refusal d ≡ refusal config → (refusal config ≡ None → (p : Packet) (k : Kind) → IsPacketOf site p → diagram_means d site p k ≡ (meant config).walk p k)
    → IsUnfolded d code.flat → code.tracks ≡ (meant config).tracks → IsCode (judged name (judged_by refusal meant read)) site code
policy_code name site refusal meant read config d code regular given same means unfolded tracked =
    let unrefused : refusal config ≡ None = sym same ∙ unfolded.unrefused in
    record {
      ok = unfolded.ok;
      policy = meant config;
      regular = regular;
      does = λ p k inside. unfolded.does site p k ∙ means unrefused p k inside;
      tracks = tracked;
      chooses = λ next. ap (λ r. judged name (judged_by refusal meant r) next) given ∙ ap (λ o. judged name (judged_chains o (meant config)) next) unrefused;
    }

-- a refusal of a diagram that is a configuration's
pub policy_refused : {C : Type 0} → (name : List ℕ) (refusal : C → Option ChainRefusal) (meant : C → Policy) (read : Result C (Refusal Cause)) (config : C) (d : Ifcl) (stop : Stop)
    → read ≡ Ok config → diagram_refusal d ≡ refusal config → ((policy : Policy) → EndsIn (judged name (judged_chains (diagram_refusal d) policy)) stop)
    → EndsIn (judged name (judged_by refusal meant read)) stop
policy_refused name refusal meant read config d stop given same ends =
    subst (λ r. EndsIn (judged name (judged_by refusal meant r)) stop) (sym given)
    (subst (λ o. EndsIn (judged name (judged_chains o (meant config))) stop) same (ends (meant config)))
