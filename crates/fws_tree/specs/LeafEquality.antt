-- What `==` holds equal is equal: truth values, and a value or none.
use Rattle.std.specs.Prelude.{◌≡◌, Bool, true, false, Option, Some, None, refl}
use Rattle.std.specs.Option.{option_eq}
use Rattle.std.proofs.Common.{ap}
use Rattle.std.proofs.Math.Bool.{beq}
use Rattle.std.proofs.lemmas.Bool.{false≢true}

pub bool_exact : (x y : Bool) → beq x y ≡ true → x ≡ y
bool_exact true true h = refl
bool_exact true false h = absurd (false≢true h)
bool_exact false true h = absurd (false≢true h)
bool_exact false false h = refl

pub option_exact : {X : Type 0} (eq : X → X → Bool) → ((x y : X) → eq x y ≡ true → x ≡ y) → (o p : Option X) → option_eq eq o p ≡ true → o ≡ p
option_exact eq exact None None h = refl
option_exact eq exact None (Some y) h = absurd (false≢true h)
option_exact eq exact (Some x) None h = absurd (false≢true h)
option_exact eq exact (Some x) (Some y) h = ap Some (exact x y h)
