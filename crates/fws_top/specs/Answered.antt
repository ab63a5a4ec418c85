-- How plans are answered, along the files that they read.
use Rattle.std.specs.Prelude.{◌≡◌, ℕ, ◌⊎◌, Option, Some, Result, List, IfErr, IfOk}
use Rattle.fws_io.specs.Outside.{Rose}
use Rattle.fws_top.specs.declared.answer.Answer.{Answer}
use Rattle.fws_top.specs.declared.answer.Stop.{Stop}
use Rattle.fws_top.specs.declared.answer.Stop.TheVariants.{Due, Memory}
use Rattle.fws_top.specs.declared.status.Status.{Status}
use Rattle.fws_top.specs.declared.status.Status.TheVariants as status
use Rattle.fws_top.specs.Due.{Contents, Faults, IsAnswered, IsFaultless, plan_for}
use Rattle.fws_top.specs.Lines.{cannot_read_line}
use Rattle.fws_top.specs.Plan.{Plan, says, shows, reads}
use Rattle.fws_top.specs.Tables.{IsWanted}

-- the name had a fault, and the text says so
pub record FaultSaid (name : List ℕ) (old new : Faults) (s : Status) (t : List ℕ) : Type 0 where
  pub fault : s ≡ status.ReadFault
  pub rose : Rose (old name) (new name)
  pub says_so : t ≡ cannot_read_line name

-- the bytes are those that the name holds, where it is known what names hold
abbrev pub IsHeld : Option Contents → List ℕ → List ℕ → Type 0
IsHeld told name bytes = (held : Contents) → told ≡ Some held → bytes ≡ held name

-- the plan is answered so: each file that it reads has a fault, which ends it, or gives bytes, by which it goes on
abbrev pub Answered : Plan → Option Contents → Faults → Faults → Status → List ℕ → Type 0
Answered (says its_status its_text) told old new s t = IsFaultless its_status × (new ≡ old) × (s ≡ its_status) × (t ≡ its_text)
Answered (shows wanted) told old new s t = (new ≡ old) × IsWanted wanted s t
Answered (reads name next) told old new s t =
    FaultSaid name old new s t ⊎ ((bytes : List ℕ) × IsHeld told name bytes × Answered (next bytes) told old new s t)

-- the plan is answered by what stops it, unless memory runs out
abbrev pub Stopped : Plan → Option Contents → Faults → Faults → Stop → Type 0
Stopped plan told old new (Due a) = Answered plan told old new a.status a.text
Stopped plan told old new Memory = Unit {0}

-- Results of functions that read from a shelf, by what it says of its contents, and by its faults before and after

-- the text, if there is one, answers the plan with status 0
abbrev pub GivesText : {S : Type 0} → Plan → (S → Option Contents) → (S → Faults) → S → S → Result (List ℕ) Stop → Type 0
GivesText plan told faults old new result = IfOk result (Answered plan (told old) (faults old) (faults new) status.Ok)

-- the answer, if there is one, answers the plan
abbrev pub GivesAnswer : {S E : Type 0} → Plan → (S → Option Contents) → (S → Faults) → S → S → Result Answer E → Type 0
GivesAnswer plan told faults old new result = IfOk result (λ a. Answered plan (told old) (faults old) (faults new) a.status a.text)

-- what is there in place of a value, if anything, answers the plan or says that memory ran out
abbrev pub GivesStop : {S X : Type 0} → Plan → (S → Option Contents) → (S → Faults) → S → S → Result X Stop → Type 0
GivesStop plan told faults old new result = IfErr result (Stopped plan (told old) (faults old) (faults new))

-- the answer, if there is one, is one to these words
abbrev pub AnswersWords : {S E : Type 0} → List (List ℕ) → (S → Option Contents) → (S → Faults) → S → S → Result Answer E → Type 0
AnswersWords words told faults old new result =
    IfOk result (λ a. IsAnswered (plan_for words) (told old) (faults old) (faults new) a.status a.text)
