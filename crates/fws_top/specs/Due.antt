-- What a plan comes to: the status and the text that it gives for what the names hold, and the names that it reads.
use Rattle.std.specs.Prelude.{◌≡◌, ℕ, ◌≤◌, Option, Some, List, ◌⊎◌, length, take}
use Rattle.fws_io.specs.Outside.{Rose, with_more}
use Rattle.fws_top.specs.declared.status.Status.{Status}
use Rattle.fws_top.specs.declared.status.Status.TheVariants as status
use Rattle.fws_top.specs.Forms.{command_of}
use Rattle.fws_top.specs.Lines.{cannot_read_line}
use Rattle.fws_top.specs.Plan.{Plan, says, shows, reads, plan_of}
use Rattle.fws_top.specs.Tables.{CanBeShown, IsWanted}

-- what the words of a command line ask to do
abbrev pub plan_for : List (List ℕ) → Plan
plan_for words = plan_of (command_of words)

-- what each name holds
abbrev pub Contents : Type 0
Contents = List ℕ → List ℕ

-- how many faults each name has had
abbrev pub Faults : Type 0
Faults = List ℕ → ℕ

-- the status and the text that the plan gives, where each name holds this
abbrev pub Due : Plan → Contents → Status → List ℕ → Type 0
Due (says its_status its_text) held s t = (s ≡ its_status) × (t ≡ its_text)
Due (shows wanted) held s t = IsWanted wanted s t
Due (reads name next) held s t = Due (next (held name)) held s t

-- a name that is read for some bytes of the files
abbrev pub IsRead : Plan → List ℕ → Type 0
IsRead (says its_status its_text) any = ⊥
IsRead (shows wanted) any = ⊥
IsRead (reads name next) any = (any ≡ name) ⊎ ((bytes : List ℕ) × IsRead (next bytes) any)

-- a name whose turn comes, where each name holds this
abbrev pub IsReadInTurn : Plan → Contents → List ℕ → Type 0
IsReadInTurn (says its_status its_text) held any = ⊥
IsReadInTurn (shows wanted) held any = ⊥
IsReadInTurn (reads name next) held any = (any ≡ name) ⊎ IsReadInTurn (next (held name)) held any

-- the shelf says that each name holds this, if the plan reads anything
abbrev pub IsTold : Plan → Option Contents → Contents → Type 0
IsTold (says its_status its_text) told held = Unit {0}
IsTold (shows wanted) told held = Unit {0}
IsTold (reads name next) told held = told ≡ Some held

-- a status with which the plan can end where no fault comes, for some bytes of the files
abbrev pub CanEnd : Plan → Status → Type 0
CanEnd (says its_status its_text) s = s ≡ its_status
CanEnd (shows wanted) s = CanBeShown wanted s
CanEnd (reads name next) s = (bytes : List ℕ) × CanEnd (next bytes) s

-- a name that is read had a fault in this call when its turn came, and the text says so
pub record IsReadFault (plan : Plan) (told : Option Contents) (old new : Faults) (t : List ℕ) : Type 0 where
  pub name : List ℕ
  pub read : IsRead plan name
  pub rose : Rose (old name) (new name)
  pub in_turn : (held : Contents) → told ≡ Some held → IsReadInTurn plan held name
  pub says_so : t ≡ cannot_read_line name

-- no fault was counted, and status and text are those that the plan gives for what the names hold
pub record IsDue (plan : Plan) (told : Option Contents) (old new : Faults) (s : Status) (t : List ℕ) : Type 0 where
  pub quiet : new ≡ old
  pub ends : CanEnd plan s
  pub due : (held : Contents) → IsTold plan told held → Due plan held s t

-- what is answered with a status, before it is written: a read fault, or what the plan gives
abbrev pub IsAnswered : Plan → Option Contents → Faults → Faults → Status → List ℕ → Type 0
IsAnswered plan told old new status.ReadFault t = IsReadFault plan told old new t
IsAnswered plan told old new status.WriteFault t = ⊥
IsAnswered plan told old new status.Memory t = ⊥
IsAnswered plan told old new status.Ok t = IsDue plan told old new status.Ok t
IsAnswered plan told old new status.NotPlaceable t = IsDue plan told old new status.NotPlaceable t
IsAnswered plan told old new status.Usage t = IsDue plan told old new status.Usage t
IsAnswered plan told old new status.Refused t = IsDue plan told old new status.Refused t

-- no fault of the outside, and not out of memory
abbrev pub IsFaultless : Status → Type 0
IsFaultless status.ReadFault = ⊥
IsFaultless status.WriteFault = ⊥
IsFaultless status.Memory = ⊥
IsFaultless _ = Unit {0}

-- a status and a text that are answered, and the number of the text's bytes that were written
pub record IsCutShort (plan : Plan) (told : Option Contents) (old new : Faults) (before after : Option (List ℕ)) : Type 0 where
  pub status_due : Status
  pub text : List ℕ
  pub written : ℕ
  pub within : written ≤ length text
  pub answered : IsAnswered plan told old new status_due text
  pub prefix : after ≡ with_more before (take written text)
