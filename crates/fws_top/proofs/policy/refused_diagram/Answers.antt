use Rattle.std.proofs.Common.{◌≡◌, Some, ◌++◌, ap, subst, ◌∙◌}
use Rattle.std.proofs.lemmas.Result.{IfOk-weaker}
use Rattle.std.specs.Prelude.{codes}
use Rattle.fws_ifcl.specs.declared.refusal.UnfoldRefusal.TheVariants as refusals
use Rattle.fws_ifcl.specs.Refusals.{refusal_of}
use Rattle.fws_top.specs.declared.answer.Stop.TheVariants.{Due}
use Rattle.fws_top.specs.declared.status.Status.TheVariants as status
use Rattle.fws_top.specs.Judged.{diagram_refusal, judged_chains}
use Rattle.fws_top.specs.Lines.{refused_line}
use Rattle.fws_top.specs.Plan.{judged}
use Rattle.fws_top.specs.Steps.{EndsIn}
use Rattle.fws_top.proofs.Policies.{diagram_refused}
use Rattle.fws_top.proofs.policy.refused_diagram.Goals as goal
use Rattle.fws_unfold.specs.Refused.{Refuses}

pub returns-in-Loop : goal.returns-in-Loop
returns-in-Loop c = λ policy.
    let name = c.args.name.now in
    let d = c.args.diagram.now in
    let n = c.in-Loop.chain in
    let found : refusal_of d ≡ Some (refusals.Loop n) = subst (λ why. Refuses why (refusal_of d)) c.in-Loop.is c.requires in
    IfOk-weaker c.refused_for_chain.result (λ a. (a.status ≡ status.Refused) × (a.text ≡ refused_line name (codes "loop " ++ c.chain_name.result.now)))
    (λ a. EndsIn (judged name (judged_chains (diagram_refusal d) policy)) (Due a))
    (λ a is. diagram_refused name d policy (refusals.Loop n) a found is.0 (is.1 ∙ ap (λ chain. refused_line name (codes "loop " ++ chain)) c.chain_name.ensures))
    c.refused_for_chain.ensures

pub returns-in-Deep : goal.returns-in-Deep
returns-in-Deep c = λ policy.
    let name = c.args.name.now in
    let d = c.args.diagram.now in
    let n = c.in-Deep.chain in
    let found : refusal_of d ≡ Some (refusals.Deep n) = subst (λ why. Refuses why (refusal_of d)) c.in-Deep.is c.requires in
    IfOk-weaker c.refused_for_chain-in-Deep.result (λ a. (a.status ≡ status.Refused) × (a.text ≡ refused_line name (codes "deep " ++ c.chain_name-in-Deep.result.now)))
    (λ a. EndsIn (judged name (judged_chains (diagram_refusal d) policy)) (Due a))
    (λ a is. diagram_refused name d policy (refusals.Deep n) a found is.0 (is.1 ∙ ap (λ chain. refused_line name (codes "deep " ++ chain)) c.chain_name-in-Deep.ensures))
    c.refused_for_chain-in-Deep.ensures

pub returns-in-Long : goal.returns-in-Long
returns-in-Long c = λ policy.
    let name = c.args.name.now in
    let d = c.args.diagram.now in
    let n = c.in-Long.chain in
    let found : refusal_of d ≡ Some (refusals.Long n) = subst (λ why. Refuses why (refusal_of d)) c.in-Long.is c.requires in
    IfOk-weaker c.refused_for_chain-in-Long.result (λ a. (a.status ≡ status.Refused) × (a.text ≡ refused_line name (codes "long " ++ c.chain_name-in-Long.result.now)))
    (λ a. EndsIn (judged name (judged_chains (diagram_refusal d) policy)) (Due a))
    (λ a is. diagram_refused name d policy (refusals.Long n) a found is.0 (is.1 ∙ ap (λ chain. refused_line name (codes "long " ++ chain)) c.chain_name-in-Long.ensures))
    c.refused_for_chain-in-Long.ensures
