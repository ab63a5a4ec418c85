-- What holds of each value that reading gives.
use Rattle.std.proofs.Common.{◌≡◌, ℕ, Bool, true, false, cond, Option, Some, None, Result, Ok, Err, List, [], ◌∷◌, IfOk, IfSome, ok_or, option_and_then, refl}
use Rattle.std.specs.Option.{option_map}
use Rattle.fws_num.specs.declared.lines.Line.{Line}
use Rattle.fws_net.specs.Reading.{and_then, located, lines_read}

-- behind something that was read, whatever it is
pub then_holds : {A B E : Type 0} (P : B → Type 0) (r : Result A E) (f : A → Result B E) → ((x : A) → IfOk (f x) P) → IfOk (and_then r f) P
then_holds P (Ok x) f h = h x
then_holds P (Err e) f h = tt

-- behind something of which a fact is known
pub then_known : {A B E : Type 0} (P : A → Type 0) (Q : B → Type 0) (r : Result A E) (f : A → Result B E) → IfOk r P → ((x : A) → P x → IfOk (f x) Q)
    → IfOk (and_then r f) Q
then_known P Q (Ok x) f h step = step x h
then_known P Q (Err e) f h step = tt

-- either branch of a choice
pub either_holds : {A E : Type 0} (P : A → Type 0) (b : Bool) (r s : Result A E) → (b ≡ true → IfOk r P) → (b ≡ false → IfOk s P) → IfOk (cond b r s) P
either_holds P true r s h k = h refl
either_holds P false r s h k = k refl

pub ok_or_holds : {A E : Type 0} (P : A → Type 0) (o : Option A) (e : E) → IfSome o P → IfOk (ok_or o e) P
ok_or_holds P None e h = tt
ok_or_holds P (Some x) e h = h

-- Options

pub some_then : {A B : Type 0} (P : A → Type 0) (Q : B → Type 0) (o : Option A) (f : A → Option B) → IfSome o P → ((x : A) → P x → IfSome (f x) Q) → IfSome (option_and_then f o) Q
some_then P Q None f h step = tt
some_then P Q (Some x) f h step = step x h

pub some_mapped : {A B : Type 0} (P : A → Type 0) (Q : B → Type 0) (o : Option A) (f : A → B) → IfSome o P → ((x : A) → P x → Q (f x)) → IfSome (option_map f o) Q
some_mapped P Q None f h step = tt
some_mapped P Q (Some x) f h step = step x h

pub some_value : {A : Type 0} (P : A → Type 0) (o : Option A) → ((x : A) → o ≡ Some x → P x) → IfSome o P
some_value P None h = tt
some_value P (Some x) h = h x refl

pub either_some : {A : Type 0} (P : A → Type 0) (b : Bool) (o p : Option A) → (b ≡ true → IfSome o P) → (b ≡ false → IfSome p P) → IfSome (cond b o p) P
either_some P true o p h k = h refl
either_some P false o p h k = k refl

pub some_weaker : {A : Type 0} (P Q : A → Type 0) (o : Option A) → ((x : A) → P x → Q x) → IfSome o P → IfSome o Q
some_weaker P Q None h k = tt
some_weaker P Q (Some x) h k = h x k

-- Values

pub both_hold : {A E : Type 0} (P Q : A → Type 0) (r : Result A E) → IfOk r P → IfOk r Q → IfOk r (λ x. P x × Q x)
both_hold P Q (Ok x) h k = (h, k)
both_hold P Q (Err e) h k = tt

-- what holds of a value that was read
pub at_value : {A E : Type 0} (P : A → Type 0) (r : Result A E) (x : A) → IfOk r P → r ≡ Ok x → P x
at_value P r x h e = rw e at h

pub located_holds : {A C : Type 0} (P : A → Type 0) (n : ℕ) (r : Result A C) → IfOk r P → IfOk (located n r) P
located_holds P n (Ok x) h = h
located_holds P n (Err e) h = tt

-- what each line keeps is kept by all
pub lines_hold : {S C : Type 0} (P : S → Type 0) (step : S → Line → Result S C) → ((s : S) (l : Line) → P s → IfOk (step s l) P)
    → (s : S) (ls : List Line) → P s → IfOk (lines_read step s ls) P
lines_hold P step kept s [] h = h
lines_hold P step kept s (l ∷ ls) h =
    then_known P P (located l.number (step s l)) (λ next. lines_read step next ls) (located_holds P l.number (step s l) (kept s l h)) (λ next k. lines_hold P step kept next ls k)
