-- What holds of each value that a reader gives.
use Rattle.std.proofs.Common.{◌≡◌, ℕ, Bool, true, false, cond, Option, Some, None, Result, Ok, Err, List, [], ◌∷◌, IfOk, IfSome, refl}
use Rattle.std.specs.Option.{option_map_or}
use Rattle.fws_num.specs.declared.word.Word.{Word}
use Rattle.fws_num.specs.Words.{is_sound}
use Rattle.fws_net.specs.declared.cause.Cause.{Cause}
use Rattle.fws_net.specs.declared.cause.Cause.TheVariants.{Syntax, LeftOut, Backward, Shape, Expand}
use Rattle.fws_net.specs.declared.cause.Checks.{Checks}
use Rattle.fws_net.specs.Causes.{unless, checked, judged, words_read}
use Rattle.fws_net.specs.Reading.{and_then, located}

-- One step

-- behind something that was read, whatever it is
pub then_holds : {A B E : Type 0} (P : B → Type 0) (r : Result A E) (f : A → Result B E) → ((x : A) → IfOk (f x) P) → IfOk (and_then r f) P
then_holds P (Ok x) f h = h x
then_holds P (Err e) f h = tt

-- behind something of which a fact is known
pub then_known : {A B E : Type 0} (P : A → Type 0) (Q : B → Type 0) (r : Result A E) (f : A → Result B E) → IfOk r P → ((x : A) → P x → IfOk (f x) Q)
    → IfOk (and_then r f) Q
then_known P Q (Ok x) f h step = step x h
then_known P Q (Err e) f h step = tt

-- either branch of a choice
pub either_holds : {A E : Type 0} (P : A → Type 0) (b : Bool) (r s : Result A E) → (b ≡ true → IfOk r P) → (b ≡ false → IfOk s P) → IfOk (cond b r s) P
either_holds P true r s h k = h refl
either_holds P false r s h k = k refl

-- what was found; nothing has to be known if it was not
pub found_holds : {A B E : Type 0} (P : B → Type 0) (o : Option A) (f : A → Result B E) (r : Result B E) → ((x : A) → IfOk (f x) P) → IfOk r P
    → IfOk (option_map_or f o r) P
found_holds P None f r h k = k
found_holds P (Some x) f r h k = h x

-- what was found, of which a fact is known
pub known_holds : {A B E : Type 0} (P : A → Type 0) (Q : B → Type 0) (o : Option A) (f : A → Result B E) (r : Result B E) → IfSome o P → ((x : A) → P x → IfOk (f x) Q) → IfOk r Q
    → IfOk (option_map_or f o r) Q
known_holds P Q None f r h step k = k
known_holds P Q (Some x) f r h step k = step x h

pub judged_holds : {A : Type 0} (P : A → Type 0) (w : Word) (r : Result A Cause) → IfOk r P → IfOk (judged w r) P
judged_holds P w r h = either_holds P (is_sound w) r (Err Syntax) (λ e. h) (λ e. tt)

-- Checks of a whole line

checks_passed : {A : Type 0} (P : A → Type 0) (left back shape large : Bool) (x : A) → P x
    → IfOk (unless (cond left (Some LeftOut) (cond back (Some Backward) (cond shape (Some Shape) (cond large (Some Expand) None)))) x) P
checks_passed P true back shape large x h = tt
checks_passed P false true shape large x h = tt
checks_passed P false false true large x h = tt
checks_passed P false false false true x h = tt
checks_passed P false false false false x h = h

pub passed_holds : {A : Type 0} (P : A → Type 0) (checks : Checks) (x : A) → P x → IfOk (checked checks x) P
passed_holds P checks x h = checks_passed P checks.left_out checks.backward checks.shape checks.expand x h

-- All steps

-- what each word keeps is kept by all
pub words_hold : {S : Type 0} (P : S → Type 0) (step : S → Word → Result S Cause) → ((state : S) (w : Word) → P state → IfOk (step state w) P)
    → (state : S) (ws : List Word) → P state → IfOk (words_read step state ws) P
words_hold P step kept state [] h = h
words_hold P step kept state (w ∷ ws) h =
    then_known P P (judged w (step state w)) (λ next. words_read step next ws) (judged_holds P w (step state w) (kept state w h))
    (λ next k. words_hold P step kept next ws k)

pub located_holds : {A : Type 0} (P : A → Type 0) (n : ℕ) (r : Result A Cause) → IfOk r P → IfOk (located n r) P
located_holds P n (Ok x) h = h
located_holds P n (Err cause) h = tt
