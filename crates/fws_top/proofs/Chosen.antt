-- Steps of plans: bytes that are read, and plans that choose what follows.
use Rattle.std.proofs.Common.{◌≡◌, ◌≤◌, ◌<◌, ℕ, suc, true, cond, Option, Some, None, Result, Ok, Err, IfErr, IfOk, List, [], length, inr, refl, sym, subst, ap, arith}
use Rattle.std.proofs.lemmas.Bool.{le-ltb, lt-ltb}
use Rattle.std.proofs.lemmas.List.{length-replicate}
use Rattle.std.specs.Prelude.{replicate}
use Rattle.fws_net.specs.declared.site.Site.{Site}
use Rattle.fws_top.specs.Answered.{Answered, IsHeld, Stopped}
use Rattle.fws_top.specs.Asks.{are_known}
use Rattle.fws_top.specs.declared.answer.Stop.{Stop}
use Rattle.fws_top.specs.declared.answer.Stop.TheVariants.{Due, Memory}
use Rattle.fws_top.specs.declared.status.Status.{Status}
use Rattle.fws_top.specs.declared.status.Status.TheVariants as status
use Rattle.fws_top.specs.Due.{Contents, Faults}
use Rattle.fws_top.specs.Lines.{refused_line, too_long_words}
use Rattle.fws_top.specs.Plan.{Plan, says, asks_plan, file_plan, refuses}
use Rattle.fws_top.specs.Steps.{AsksStopped, Chooses, EndsIn, GoesOn, StopsAt}
use Rattle.fws_top.specs.Texts.{file_limit, usage_text}

-- a file that isn't too long is gone on with
pub file_read : (name bytes : List ℕ) (told : Option Contents) → length bytes ≤ file_limit → IsHeld told name bytes → GoesOn (file_plan name) told bytes
file_read name bytes told within is_held next old new s t a =
    inr (bytes, is_held, subst (λ b. Answered (cond b (refuses name too_long_words) (next bytes)) told old new s t) (sym (le-ltb file_limit (length bytes) within)) a)

-- bytes as long as one likes
long_bytes : (n : ℕ) → (bytes : List ℕ) × (n < length bytes)
long_bytes n = (replicate (suc n) 0, subst (λ m. n < m) (sym (length-replicate (suc n) 0)) (omega arith))

abbrev held_at : List ℕ → Option Contents → List ℕ
held_at name None = []
held_at name (Some held) = held name

-- bytes that are too long, those that the name holds where that is told
too_long : (name : List ℕ) (told : Option Contents) → ((held : Contents) → told ≡ Some held → file_limit < length (held name))
    → (bytes : List ℕ) × (file_limit < length bytes) × IsHeld told name bytes
too_long name None over = let b = long_bytes file_limit in (b.0, b.1, λ held e. absurd (cc))
too_long name (Some f) over = (f name, over f refl, λ held e. ap (held_at name) e)

-- a file that holds too much is refused
pub file_refused : (name : List ℕ) (told : Option Contents) (old new : Faults) (s : Status) (t : List ℕ)
    → ((held : Contents) → told ≡ Some held → file_limit < length (held name))
    → new ≡ old → s ≡ status.Refused → t ≡ refused_line name too_long_words → (next : List ℕ → Plan) → Answered (file_plan name next) told old new s t
file_refused name told old new s t over quiet status_is text_is next =
    let b = too_long name told over in
    inr (b.0, b.2, subst (λ c. Answered (cond c (refuses name too_long_words) (next b.0)) told old new s t) (sym (lt-ltb file_limit (length b.0) b.1)) (tt, quiet, status_is, text_is))

-- a plan whose bytes choose what follows goes on with that
pub chosen : {X : Type 0} → (name bytes seen : List ℕ) (told : Option Contents) (judges : List ℕ → (X → Plan) → Plan) (x : X)
    → seen ≡ bytes → GoesOn (file_plan name) told bytes → Chooses (judges seen) x → GoesOn (λ next. file_plan name (λ b. judges b next)) told x
chosen name bytes seen told judges x same on chooses next old new s t a =
    on (λ b. judges b next) old new s t (subst (λ b. Answered (judges b next) told old new s t) same (subst (λ plan. Answered plan told old new s t) (sym (chooses next)) a))

-- a plan whose bytes end it is answered
pub ended : {X : Type 0} → (name bytes seen : List ℕ) (told : Option Contents) (judges : List ℕ → (X → Plan) → Plan) (old new : Faults) (stop : Stop)
    → seen ≡ bytes → GoesOn (file_plan name) told bytes → new ≡ old → EndsIn (judges seen) stop → StopsAt (λ next. file_plan name (λ b. judges b next)) told old new stop
ended name bytes seen told judges old new (Due a) same on quiet ends = λ next.
    on (λ b. judges b next) old new a.status a.text (subst (λ b. Answered (judges b next) told old new a.status a.text) same
    (subst (λ plan. Answered plan told old new a.status a.text) (sym (ends.1 next)) (ends.0, quiet, refl, refl)))
ended name bytes seen told judges old new Memory same on quiet ends = tt

-- what stops the reading of a file stops what its bytes would choose
pub stopped_file : {X : Type 0} → (name : List ℕ) (told : Option Contents) (judges : List ℕ → (X → Plan) → Plan) (old new : Faults) (stop : Stop)
    → StopsAt (file_plan name) told old new stop → StopsAt (λ next. file_plan name (λ b. judges b next)) told old new stop
stopped_file name told judges old new (Due a) stops = λ next. stops (λ b. judges b next)
stopped_file name told judges old new Memory stops = tt

-- what is judged of the bytes of a file, where that ends the plan
pub judged_stops : {X A : Type 0} → (name bytes seen : List ℕ) (told : Option Contents) (judges : List ℕ → (X → Plan) → Plan) (old new : Faults) (result : Result A Stop)
    → seen ≡ bytes → GoesOn (file_plan name) told bytes → new ≡ old → IfErr result (EndsIn (judges seen)) → IfErr result (StopsAt (λ next. file_plan name (λ b. judges b next)) told old new)
judged_stops name bytes seen told judges old new (Ok a) same on quiet ends = tt
judged_stops name bytes seen told judges old new (Err stop) same on quiet ends = ended name bytes seen told judges old new stop same on quiet ends

-- and where it chooses what follows, for what is seen of the value
pub judged_goes_on : {X A : Type 0} → (name bytes seen : List ℕ) (told : Option Contents) (judges : List ℕ → (X → Plan) → Plan) (result : Result A Stop) (view : A → X)
    → seen ≡ bytes → GoesOn (file_plan name) told bytes → IfOk result (λ a. Chooses (judges seen) (view a)) → IfOk result (λ a. GoesOn (λ next. file_plan name (λ b. judges b next)) told (view a))
judged_goes_on name bytes seen told judges (Ok a) view same on chooses = chosen name bytes seen told judges (view a) same on chooses
judged_goes_on name bytes seen told judges (Err stop) view same on chooses = tt

-- Commands

-- what stops a step stops the command
pub stopped_on : {X : Type 0} → (plan : (X → Plan) → Plan) (told before : Option Contents) (old at new : Faults) (stop : Stop) (next : X → Plan)
    → before ≡ told → at ≡ old → StopsAt plan before at new stop → Stopped (plan next) told old new stop
stopped_on plan told before old at new (Due a) next same quiet stops =
    subst (λ b. Answered (plan next) b old new a.status a.text) same (subst (λ o. Answered (plan next) before o new a.status a.text) quiet (stops next))
stopped_on plan told before old at new Memory next same quiet stops = tt

-- what is answered behind a step that goes on is answered for the whole
pub answered_behind : {X : Type 0} → (plan : (X → Plan) → Plan) (told before : Option Contents) (old at new : Faults) (s : Status) (t : List ℕ) (next : X → Plan) (x : X)
    → GoesOn plan told x → before ≡ told → at ≡ old → Answered (next x) before at new s t → Answered (plan next) told old new s t
answered_behind plan told before old at new s t next x on same quiet a =
    on next old new s t (subst (λ b. Answered (next x) b old new s t) same (subst (λ o. Answered (next x) before o new s t) quiet a))

-- what stops the rest of a command stops it, behind a step that goes on
pub stopped_behind : {X : Type 0} → (plan : (X → Plan) → Plan) (told before : Option Contents) (old at new : Faults) (stop : Stop) (next : X → Plan) (x : X)
    → GoesOn plan told x → before ≡ told → at ≡ old → Stopped (next x) before at new stop → Stopped (plan next) told old new stop
stopped_behind plan told before old at new (Due a) next x on same quiet stopped = answered_behind plan told before old at new a.status a.text next x on same quiet stopped
stopped_behind plan told before old at new Memory next x on same quiet stopped = tt

-- a plan that ends in an answer is answered, where nothing was read
pub ended_at : {X : Type 0} → (plan : (X → Plan) → Plan) (told : Option Contents) (faults : Faults) (stop : Stop) (next : X → Plan)
    → EndsIn plan stop → Stopped (plan next) told faults faults stop
ended_at plan told faults (Due a) next ends = subst (λ p. Answered p told faults faults a.status a.text) (sym (ends.1 next)) (ends.0, refl, refl, refl)
ended_at plan told faults Memory next ends = tt

-- what is answered where a plan chooses is answered for the plan
pub answered_where : {X : Type 0} → (plan : (X → Plan) → Plan) (told : Option Contents) (faults : Faults) (s : Status) (t : List ℕ) (next : X → Plan) (x : X)
    → Chooses plan x → Answered (next x) told faults faults s t → Answered (plan next) told faults faults s t
answered_where plan told faults s t next x chooses a = subst (λ p. Answered p told faults faults s t) (sym (chooses next)) a

-- what stops what a plan chooses stops the plan
pub stopped_where : {X : Type 0} → (plan : (X → Plan) → Plan) (told : Option Contents) (faults : Faults) (stop : Stop) (next : X → Plan) (x : X)
    → Chooses plan x → Stopped (next x) told faults faults stop → Stopped (plan next) told faults faults stop
stopped_where plan told faults stop next x chooses stopped = subst (λ p. Stopped p told faults faults stop) (sym (chooses next)) stopped

-- entries that a site lacks stop a query
pub asks_stopped : (site : Site) (asks : List (List ℕ)) (told : Option Contents) (old new : Faults) (stop : Stop) (next : Plan)
    → new ≡ old → AsksStopped site asks stop → Stopped (asks_plan site asks next) told old new stop
asks_stopped site asks told old new (Due a) next quiet unknown =
    subst (λ plan. Answered plan told old new a.status a.text) (sym (unknown.1 next)) (unknown.0, quiet, refl, refl)
asks_stopped site asks told old new Memory next quiet unknown = tt

-- entries that a site has don't
pub asks_on : (site : Site) (asks : List (List ℕ)) (next : Plan) → are_known site asks ≡ true → asks_plan site asks next ≡ next
asks_on site asks next known = ap (λ b. cond b next (says status.Usage usage_text)) known
