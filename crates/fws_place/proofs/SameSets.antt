-- What `==` holds equal is equal: sets.
use Rattle.std.proofs.Common.{◌≡◌, Bool, true, ◌&&◌, List, [], ◌∷◌, refl, ap, ◌∙◌}
use Rattle.std.proofs.lemmas.Bool.{and_parts, eqb-true, false≢true}
use Rattle.std.specs.Prelude.{nat_eq}
use Rattle.std.specs.Cmp.Lexicographic.{pointwise}
use Rattle.fws_iv.specs.declared.iv.Iv.{Iv}

pub part_exact : (x y : Iv) → (nat_eq x.lo y.lo && nat_eq x.hi y.hi) ≡ true → x ≡ y
part_exact x y h =
    let both = and_parts (nat_eq x.lo y.lo) (nat_eq x.hi y.hi) h in
    let lo = eqb-true x.lo y.lo both.0 in
    let hi = eqb-true x.hi y.hi both.1 in
    λ i. record { lo = lo i; hi = hi i }

pub set_exact : (eq : Iv → Iv → Bool) → ((x y : Iv) → eq x y ≡ true → x ≡ y) → (s t : List Iv) → pointwise eq s t ≡ true → s ≡ t
set_exact eq exact [] [] h = refl
set_exact eq exact [] (y ∷ t) h = absurd (false≢true h)
set_exact eq exact (x ∷ s) [] h = absurd (false≢true h)
set_exact eq exact (x ∷ s) (y ∷ t) h =
    let both = and_parts (eq x y) (pointwise eq s t) h in
    ap (λ z. z ∷ s) (exact x y both.0) ∙ ap (λ l. y ∷ l) (set_exact eq exact s t both.1)
