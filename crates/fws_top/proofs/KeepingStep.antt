-- What is emitted for tables keeps step with the policy whose tables they are.
use Rattle.std.proofs.Common.{◌≡◌, ℕ, true, Option, Result, List, ap, sym, subst, unwrap_or, ◌∙◌}
use Rattle.fws_events.specs.Runs.{GiveSameFatesAt}
use Rattle.fws_ios.specs.FileText.{spelled as ios_spelled}
use Rattle.fws_ipfw.specs.FileText.{spelled as ipfw_spelled}
use Rattle.fws_ipt.specs.FileText.{spelled as ipt_spelled}
use Rattle.fws_net.specs.declared.cause.Cause.{Cause}
use Rattle.fws_net.specs.declared.connection.Kind.TheVariants as kinds
use Rattle.fws_net.specs.declared.outcome.Outcome.{Outcome}
use Rattle.fws_net.specs.declared.outcome.Outcome.TheVariants.{Drop}
use Rattle.fws_net.specs.declared.site.Site.{Site}
use Rattle.fws_net.specs.Connections.{fate_in}
use Rattle.fws_net.specs.Reading.{Refusal}
use Rattle.fws_pf.specs.FileText.{spelled as pf_spelled}
use Rattle.fws_place.specs.Meaning.{no_ends, point_of}
use Rattle.fws_top.specs.declared.lang.TargetLang.{TargetLang}
use Rattle.fws_top.specs.declared.lang.TargetLang.TheVariants.{Iptables, Ipfw, Pf, Ios}
use Rattle.fws_top.specs.Judged.{Policy, ios_meant, ipfw_meant, ipt_meant, pf_meant}
use Rattle.fws_top.specs.KeepStep.{KeepsStep, SpellsInStep, SpellsInStepBy}
use Rattle.fws_top.specs.Translations.{Emits, EmitsBy, GivesFates}
use Rattle.fws_top.specs.Walked.{AreTablesOf, Walk}
use Rattle.fws_tree.specs.declared.tables.Tables.{Tables}

-- a walk and one that gives the fates of its tables give the same fates
same_fates : (site : Site) (tables : Tables) (walk other : Walk) → AreTablesOf site walk tables → GivesFates site tables other → GiveSameFatesAt site walk other
same_fates site tables walk other made given p kinds.New within =
    ap (λ (o : Option Outcome). fate_in (unwrap_or o Drop) p kinds.New) (sym (made.fresh_walked (point_of p no_ends) within)) ∙ sym (given.new p within)
same_fates site tables walk other made given p (kinds.Est r) within =
    ap (λ (o : Option Outcome). fate_in (unwrap_or o Drop) p (kinds.Est r)) (sym (made.est_walked (point_of p r) within)) ∙ sym (given.established p r within)

-- policies that track, and give the same fates, keep step
abbrev pub SameFatesKeepStep : Type 0
SameFatesKeepStep = (site : Site) (policy other : Policy) → GiveSameFatesAt site policy.walk other.walk
    → KeepsStep site (record policy { tracks = true }) (record other { tracks = true })

both_track : (site : Site) (policy other : Policy) → policy.tracks ≡ true → other.tracks ≡ true
    → KeepsStep site (record policy { tracks = true }) (record other { tracks = true }) → KeepsStep site policy other
both_track site policy other first second in_step =
    subst (λ t. KeepsStep site (record policy { tracks = t }) other) (sym first)
    (subst (λ t. KeepsStep site (record policy { tracks = true }) (record other { tracks = t })) (sym second) in_step)

emitted_by : {C : Type 0} → SameFatesKeepStep → (spelled : List ℕ → Result C (Refusal Cause)) (meant : C → Policy) (site : Site) (policy : Policy) (tables : Tables) (t : List ℕ)
    → policy.tracks ≡ true → AreTablesOf site policy.walk tables → EmitsBy spelled (λ config. (meant config).tracks) (λ config. (meant config).walk) site tables t
    → SpellsInStepBy spelled meant site policy t
emitted_by law spelled meant site policy tables t tracked made emitted = record {
  config = emitted.config;
  spells = emitted.spells;
  tracked = emitted.tracked;
  in_step = both_track site policy (meant emitted.config) tracked emitted.tracked
      (law site policy (meant emitted.config) (same_fates site tables policy.walk (meant emitted.config).walk made emitted.fates));
}

pub emitted_in_step : SameFatesKeepStep → (to : TargetLang) (site : Site) (policy : Policy) (tables : Tables) (t : List ℕ) → policy.tracks ≡ true → AreTablesOf site policy.walk tables
    → Emits to site tables t → SpellsInStep to site policy t
emitted_in_step law Iptables site policy tables t tracked made emitted = emitted_by law (ipt_spelled site) (ipt_meant site) site policy tables t tracked made emitted
emitted_in_step law Ipfw site policy tables t tracked made emitted = emitted_by law (ipfw_spelled site) (ipfw_meant site) site policy tables t tracked made emitted
emitted_in_step law Pf site policy tables t tracked made emitted = emitted_by law (pf_spelled site) (pf_meant site) site policy tables t tracked made emitted
emitted_in_step law Ios site policy tables t tracked made emitted = emitted_by law (ios_spelled site) (ios_meant site) site policy tables t tracked made emitted
