-- The steps of plans: a value is taken, or the plan is answered in its place.
use Rattle.std.specs.Prelude.{◌≡◌, Option, List, ℕ}
use Rattle.fws_net.specs.declared.site.Site.{Site}
use Rattle.fws_top.specs.Answered.{Answered}
use Rattle.fws_top.specs.declared.answer.Stop.{Stop}
use Rattle.fws_top.specs.declared.answer.Stop.TheVariants.{Due, Memory}
use Rattle.fws_top.specs.declared.status.Status.{Status}
use Rattle.fws_top.specs.Due.{Contents, Faults, IsFaultless}
use Rattle.fws_top.specs.Plan.{Plan, says, asks_plan}

-- a plan that begins with a step, by what follows for each value that the step may take
abbrev pub Step : Type 0 → Type 0
Step X = (X → Plan) → Plan

-- Steps that read

-- the plan goes on with the value: it is answered as what follows for the value is
abbrev pub GoesOn : {X : Type 0} → Step X → Option Contents → X → Type 0
GoesOn {X} plan told x = (next : X → Plan) (old new : Faults) (s : Status) (t : List ℕ)
    → Answered (next x) told old new s t → Answered (plan next) told old new s t

-- the plan is answered, whatever would follow, unless memory runs out
abbrev pub StopsAt : {X : Type 0} → Step X → Option Contents → Faults → Faults → Stop → Type 0
StopsAt {X} plan told old new (Due a) = (next : X → Plan) → Answered (plan next) told old new a.status a.text
StopsAt {X} plan told old new Memory = Unit {0}

-- Steps that judge what was read

-- the plan is what follows for the value
abbrev pub Chooses : {X : Type 0} → Step X → X → Type 0
Chooses {X} plan x = (next : X → Plan) → plan next ≡ next x

-- the plan says just this answer, whatever would follow, unless memory runs out
abbrev pub EndsIn : {X : Type 0} → Step X → Stop → Type 0
EndsIn {X} plan (Due a) = IsFaultless a.status × ((next : X → Plan) → plan next ≡ says a.status a.text)
EndsIn {X} plan Memory = Unit {0}

-- the words of a query name an entry that the site lacks, and the answer says so, unless memory runs out
abbrev pub AsksStopped : Site → List (List ℕ) → Stop → Type 0
AsksStopped site asks (Due a) = IsFaultless a.status × ((next : Plan) → asks_plan site asks next ≡ says a.status a.text)
AsksStopped site asks Memory = Unit {0}
