-- Names with a mark at their end.
use Rattle.std.proofs.Common.{◌≡◌, ◌≢◌, ℕ, Bool, true, false, Some, None, List, [], ◌∷◌, ◌++◌, cond, nat_eq, refl, ap, ◌∙◌, arith}
use Rattle.std.proofs.lemmas.Bool.{cond-true, cond-false}
use Rattle.std.proofs.lemmas.Bool.Decides.{nat_tests}
use Rattle.std.specs.Option.{option_map}
use Rattle.fws_rules.specs.Interfaces.{before_mark}

mapped : (b : Bool) (d : ℕ) (front : List ℕ) → option_map (λ f. d ∷ f) (cond b (Some front) None) ≡ cond b (Some (d ∷ front)) None
mapped true d front = refl
mapped false d front = refl

pushed : (mark : ℕ) (front : List ℕ) (c : ℕ) → before_mark mark (front ++ c ∷ []) ≡ cond (nat_eq c mark) (Some front) None
pushed mark [] c = refl
pushed mark (d ∷ []) c = mapped (nat_eq c mark) d []
pushed mark (d ∷ e ∷ front) c = ap (option_map (λ f. d ∷ f)) (pushed mark (e ∷ front) c) ∙ mapped (nat_eq c mark) d (e ∷ front)

pub with_mark : (mark : ℕ) (text front : List ℕ) (c : ℕ) → text ≡ front ++ c ∷ [] → c ≡ mark → before_mark mark text ≡ Some front
with_mark mark text front c e p = rw e (pushed mark front c ∙ cond-true (nat_eq c mark) (Some front) None (grind (arith, nat_tests)))

pub without_mark : (mark : ℕ) (text front : List ℕ) (c : ℕ) → text ≡ front ++ c ∷ [] → c ≢ mark → before_mark mark text ≡ None
without_mark mark text front c e n = rw e (pushed mark front c ∙ cond-false (nat_eq c mark) (Some front) None (grind (arith, nat_tests)))
