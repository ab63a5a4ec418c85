-- What `dead` answers, of a diagram in which the rules have places.
use Rattle.std.proofs.Common.{◌≡◌, ℕ, Option, None, Result, Ok, Err, IfErr, IfOk, List, ap, refl, sym, subst, ◌∙◌}
use Rattle.fws_dead.specs.Compared.{IsOfSite}
use Rattle.fws_dead.specs.Unused.{UseAlike, used_at}
use Rattle.fws_net.specs.declared.connection.Kind.{Kind}
use Rattle.fws_net.specs.declared.connection.Kind.TheVariants.{New, Est}
use Rattle.fws_net.specs.declared.packet.Packet.{Packet}
use Rattle.fws_net.specs.declared.site.Site.{Site}
use Rattle.fws_top.specs.Answered.{Answered, Stopped}
use Rattle.fws_top.specs.declared.answer.Stop.{Stop}
use Rattle.fws_top.specs.declared.answer.Stop.TheVariants.{Due, Memory}
use Rattle.fws_top.specs.declared.lang.SourceLang.{SourceLang}
use Rattle.fws_top.specs.declared.placed.Placed.{Placed}
use Rattle.fws_top.specs.declared.status.Status.TheVariants as status
use Rattle.fws_top.specs.Due.{Contents, Faults}
use Rattle.fws_top.specs.Judged.{IsPacketOf, Policy, accepted, diagram_refusal, judged_chains}
use Rattle.fws_top.specs.Parts.{dead_part}
use Rattle.fws_top.specs.PlacedCodes.{IsPlaced, IsTakenPlaced}
use Rattle.fws_top.specs.Plan.{Plan, shows, judged}
use Rattle.fws_top.specs.Steps.{EndsIn}
use Rattle.fws_top.specs.Tables.{IsUnusedText, unused}
use Rattle.fws_top.specs.Walked.{Uses}

-- a packet of the site of any class is one of the site
entered : (site : Site) (p : Packet) (k : Kind) → IsOfSite site p k → IsPacketOf site p
entered site p New within = within.0
entered site p (Est r) within = within.0

-- the unused rules of a diagram that isn't refused are shown
pub dead_shown : (lang : SourceLang) (file : List ℕ) (site : Site) (placed : Placed) (told : Option Contents) (old new : Faults) (text : List ℕ)
    → IsTakenPlaced lang file told site placed → new ≡ old → diagram_refusal placed.diagram ≡ None
    → ((used : Uses) → UseAlike site (used_at placed.diagram site placed.spots.items) used → IsUnusedText site used placed.labels.items text)
    → Answered (dead_part lang site file) told old new status.Ok text
dead_shown lang file site placed told old new text taken quiet unrefused made =
    let is : IsPlaced taken.text site placed = taken.is in
    let shown : Policy → Plan = λ policy. shows (unused site policy.used policy.labels) in
    let meant : taken.text ≡ accepted is.policy = is.judged ∙ ap (λ o. judged_chains o is.policy) unrefused in
    let alike : UseAlike site (used_at placed.diagram site placed.spots.items) is.policy.used = λ p k of_site. is.tells unrefused p k (entered site p k of_site) in
    taken.goes_on (λ t. judged file t shown) old new status.Ok text
    (subst (λ t. Answered (judged file t shown) told old new status.Ok text) (sym meant)
    (quiet, (refl, subst (λ labels. IsUnusedText site is.policy.used labels text) is.labels (made is.policy.used alike))))

-- a diagram that is refused stops the command
pub dead_stopped : (lang : SourceLang) (file : List ℕ) (site : Site) (placed : Placed) (told : Option Contents) (old new : Faults) (stop : Stop)
    → IsTakenPlaced lang file told site placed → new ≡ old → ((policy : Policy) → EndsIn (judged file (judged_chains (diagram_refusal placed.diagram) policy)) stop)
    → Stopped (dead_part lang site file) told old new stop
dead_stopped lang file site placed told old new (Due a) taken quiet ends =
    let is : IsPlaced taken.text site placed = taken.is in
    let shown : Policy → Plan = λ policy. shows (unused site policy.used policy.labels) in
    let said : EndsIn (judged file taken.text) (Due a) = subst (λ t. EndsIn (judged file t) (Due a)) (sym is.judged) (ends is.policy) in
    taken.goes_on (λ t. judged file t shown) old new a.status a.text
    (subst (λ plan. Answered plan told old new a.status a.text) (sym (said.1 shown)) (said.0, quiet, refl, refl))
dead_stopped lang file site placed told old new Memory taken quiet ends = tt

-- what is given for such a diagram: a text that shows its unused rules
pub dead_given : (lang : SourceLang) (file : List ℕ) (site : Site) (placed : Placed) (told : Option Contents) (old new : Faults) (result : Result (List ℕ) Stop)
    → IsTakenPlaced lang file told site placed → new ≡ old → IfOk result (λ text. diagram_refusal placed.diagram ≡ None)
    → ((used : Uses) → UseAlike site (used_at placed.diagram site placed.spots.items) used → IfOk result (IsUnusedText site used placed.labels.items))
    → IfOk result (Answered (dead_part lang site file) told old new status.Ok)
dead_given lang file site placed told old new (Ok text) taken quiet unrefused made = dead_shown lang file site placed told old new text taken quiet unrefused made
dead_given lang file site placed told old new (Err stop) taken quiet unrefused made = tt

-- or what stops the command
pub dead_stop_given : (lang : SourceLang) (file : List ℕ) (site : Site) (placed : Placed) (told : Option Contents) (old new : Faults) (result : Result (List ℕ) Stop)
    → IsTakenPlaced lang file told site placed → new ≡ old
    → ((policy : Policy) → IfErr result (EndsIn (judged file (judged_chains (diagram_refusal placed.diagram) policy))))
    → IfErr result (Stopped (dead_part lang site file) told old new)
dead_stop_given lang file site placed told old new (Ok text) taken quiet ends = tt
dead_stop_given lang file site placed told old new (Err stop) taken quiet ends = dead_stopped lang file site placed told old new stop taken quiet ends
