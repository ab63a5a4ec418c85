-- What follows from an answer that goes along a plan.
use Rattle.std.proofs.Common.{◌≡◌, ◌⊎◌, ℕ, Option, Some, Result, Ok, Err, IfOk, List, inl, inr, refl, sym, subst}
use Rattle.fws_net.specs.declared.site.Site.{Site}
use Rattle.fws_top.specs.Answered.{Answered, FaultSaid}
use Rattle.fws_top.specs.declared.answer.Answer.{Answer}
use Rattle.fws_top.specs.declared.lang.TargetLang.{TargetLang}
use Rattle.fws_top.specs.declared.status.Status.{Status}
use Rattle.fws_top.specs.declared.status.Status.TheVariants as status
use Rattle.fws_top.specs.Due.{CanEnd, Contents, Due, Faults, IsAnswered, IsDue, IsFaultless, IsReadFault, IsReadInTurn, IsTold, plan_for}
use Rattle.fws_top.specs.Forms.{Command, command_of}
use Rattle.fws_top.specs.Plan.{Plan, says, shows, reads, plan_of}
use Rattle.fws_top.specs.Tables.{Wanted, table, asked_table, translation, comparison, unused, loaded, CanBeShown, IsWanted}
use Rattle.fws_top.specs.Translations.{IsPlacement}
use Rattle.fws_tree.specs.declared.tables.Tables.{Tables}

-- a text is shown with a status with which it may be
placement_ends : (target : TargetLang) (site : Site) (tables : Tables) (s : Status) (t : List ℕ)
    → IsPlacement target site tables s t → (s ≡ status.Ok) ⊎ (s ≡ status.NotPlaceable)
placement_ends target site tables status.Ok t made = inl refl
placement_ends target site tables status.NotPlaceable t made = inr refl
placement_ends target site tables status.Usage t made = absurd made
placement_ends target site tables status.Refused t made = absurd made
placement_ends target site tables status.ReadFault t made = absurd made
placement_ends target site tables status.WriteFault t made = absurd made
placement_ends target site tables status.Memory t made = absurd made

wanted_ends : (wanted : Wanted) (s : Status) (t : List ℕ) → IsWanted wanted s t → CanBeShown wanted s
wanted_ends (table site state walk) s t w = w.0
wanted_ends (asked_table site state asks walk) s t w = w.0
wanted_ends (translation target site walk) s t w = placement_ends target site w.0 s t w.2
wanted_ends (comparison site walk other) s t w = w.0
wanted_ends (unused site used labels) s t w = w.0
wanted_ends (loaded n site walk) s t w = w.0

-- and never with a fault of the outside or out of memory
shown_fine : (wanted : Wanted) (s : Status) → CanBeShown wanted s → IsFaultless s
shown_fine (table site state walk) s e = subst IsFaultless (sym e) tt
shown_fine (asked_table site state asks walk) s e = subst IsFaultless (sym e) tt
shown_fine (translation target site walk) s (inl e) = subst IsFaultless (sym e) tt
shown_fine (translation target site walk) s (inr e) = subst IsFaultless (sym e) tt
shown_fine (comparison site walk other) s e = subst IsFaultless (sym e) tt
shown_fine (unused site used labels) s e = subst IsFaultless (sym e) tt
shown_fine (loaded n site walk) s e = subst IsFaultless (sym e) tt

wanted_fine : (wanted : Wanted) (s : Status) (t : List ℕ) → IsWanted wanted s t → IsFaultless s
wanted_fine wanted s t w = shown_fine wanted s (wanted_ends wanted s t w)

-- a fault isn't said without one
fault_is_fault : (name : List ℕ) (old new : Faults) (s : Status) (t : List ℕ) → FaultSaid name old new s t → IsFaultless s → ⊥
fault_is_fault name old new s t f fine = subst IsFaultless f.fault fine

answered_quiet : (plan : Plan) (told : Option Contents) (old new : Faults) (s : Status) (t : List ℕ)
    → Answered plan told old new s t → IsFaultless s → new ≡ old
answered_quiet (says u v) told old new s t a fine = a.1
answered_quiet (shows wanted) told old new s t a fine = a.0
answered_quiet (reads name next) told old new s t (inl f) fine = absurd (fault_is_fault name old new s t f fine)
answered_quiet (reads name next) told old new s t (inr a) fine = answered_quiet (next a.0) told old new s t a.2 fine

answered_ends : (plan : Plan) (told : Option Contents) (old new : Faults) (s : Status) (t : List ℕ)
    → Answered plan told old new s t → IsFaultless s → CanEnd plan s
answered_ends (says u v) told old new s t a fine = a.2
answered_ends (shows wanted) told old new s t a fine = wanted_ends wanted s t a.1
answered_ends (reads name next) told old new s t (inl f) fine = absurd (fault_is_fault name old new s t f fine)
answered_ends (reads name next) told old new s t (inr a) fine = (a.0, answered_ends (next a.0) told old new s t a.2 fine)

-- where what each name holds is told
told_due : (plan : Plan) (told : Option Contents) (held : Contents) (old new : Faults) (s : Status) (t : List ℕ)
    → told ≡ Some held → Answered plan told old new s t → IsFaultless s → Due plan held s t
told_due (says u v) told held old new s t e a fine = (a.2, a.3)
told_due (shows wanted) told held old new s t e a fine = a.1
told_due (reads name next) told held old new s t e (inl f) fine = absurd (fault_is_fault name old new s t f fine)
told_due (reads name next) told held old new s t e (inr a) fine =
    subst (λ bytes. Due (next bytes) held s t) (a.1 held e) (told_due (next a.0) told held old new s t e a.2 fine)

answered_due : (plan : Plan) (told : Option Contents) (old new : Faults) (s : Status) (t : List ℕ)
    → Answered plan told old new s t → IsFaultless s → (held : Contents) → IsTold plan told held → Due plan held s t
answered_due (says u v) told old new s t a fine held e = (a.2, a.3)
answered_due (shows wanted) told old new s t a fine held e = a.1
answered_due (reads name next) told old new s t a fine held e = told_due (reads name next) told held old new s t e a fine

-- a read fault is one of a name whose turn it was
answered_fault : (plan : Plan) (told : Option Contents) (old new : Faults) (t : List ℕ)
    → Answered plan told old new status.ReadFault t → IsReadFault plan told old new t
answered_fault (says u v) told old new t a = absurd (subst IsFaultless (sym a.2) a.0)
answered_fault (shows wanted) told old new t a = absurd (wanted_fine wanted status.ReadFault t a.1)
answered_fault (reads name next) told old new t (inl f) = record {
  name = name;
  read = inl refl;
  rose = f.rose;
  in_turn = λ held e. inl refl;
  says_so = f.says_so;
}
answered_fault (reads name next) told old new t (inr a) =
    let later = answered_fault (next a.0) told old new t a.2 in
    record {
      name = later.name;
      read = inr (a.0, later.read);
      rose = later.rose;
      in_turn = λ held e. inr (subst (λ bytes. IsReadInTurn (next bytes) held later.name) (a.1 held e) (later.in_turn held e));
      says_so = later.says_so;
    }

-- no plan says a fault of the outside or that memory ran out
answered_fine : (plan : Plan) (told : Option Contents) (old new : Faults) (s : Status) (t : List ℕ)
    → Answered plan told old new s t → (s ≡ status.ReadFault → ⊥) → IsFaultless s
answered_fine (says u v) told old new s t a other = subst IsFaultless (sym a.2) a.0
answered_fine (shows wanted) told old new s t a other = wanted_fine wanted s t a.1
answered_fine (reads name next) told old new s t (inl f) other = absurd (other f.fault)
answered_fine (reads name next) told old new s t (inr a) other = answered_fine (next a.0) told old new s t a.2 other

abbrev IsNoRead : Status → Type 0
IsNoRead status.ReadFault = ⊥
IsNoRead _ = Unit {0}

is_due : (plan : Plan) (told : Option Contents) (old new : Faults) (s : Status) (t : List ℕ)
    → Answered plan told old new s t → IsFaultless s → IsDue plan told old new s t
is_due plan told old new s t a fine = record {
  quiet = answered_quiet plan told old new s t a fine;
  ends = answered_ends plan told old new s t a fine;
  due = answered_due plan told old new s t a fine;
}

pub is_answered : (plan : Plan) (told : Option Contents) (old new : Faults) (s : Status) (t : List ℕ)
    → Answered plan told old new s t → IsAnswered plan told old new s t
is_answered plan told old new status.Ok t a = is_due plan told old new status.Ok t a tt
is_answered plan told old new status.NotPlaceable t a = is_due plan told old new status.NotPlaceable t a tt
is_answered plan told old new status.Usage t a = is_due plan told old new status.Usage t a tt
is_answered plan told old new status.Refused t a = is_due plan told old new status.Refused t a tt
is_answered plan told old new status.ReadFault t a = answered_fault plan told old new t a
is_answered plan told old new status.WriteFault t a = answered_fine plan told old new status.WriteFault t a (λ e. subst IsNoRead e tt)
is_answered plan told old new status.Memory t a = answered_fine plan told old new status.Memory t a (λ e. subst IsNoRead e tt)

-- what answers the plan of a command is an answer to the words that ask for it
pub answers_words : {E : Type 0} → (command : Command) (words : List (List ℕ)) (told : Option Contents) (old new : Faults) (result : Result Answer E)
    → command ≡ command_of words → IfOk result (λ a. Answered (plan_of command) told old new a.status a.text)
    → IfOk result (λ a. IsAnswered (plan_for words) told old new a.status a.text)
answers_words command words told old new (Ok a) asks answered =
    is_answered (plan_for words) told old new a.status a.text (subst (λ c. Answered (plan_of c) told old new a.status a.text) asks answered)
answers_words command words told old new (Err e) asks answered = tt
