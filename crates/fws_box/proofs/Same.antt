-- Sets whose intervals are equal one by one are the same.
use Rattle.std.specs.Cmp.Lexicographic.{pointwise}
use Rattle.std.proofs.Common.{◌≡◌, Bool, true, ◌&&◌, List, [], ◌∷◌, refl, ◌∙◌, ap, nat_eq}
use Rattle.std.proofs.lemmas.Bool.{eqb-true, and_parts, false≢true}
use Rattle.fws_iv.specs.declared.iv.Iv.{Iv}

pub same_part : (x y : Iv) → (nat_eq x.lo y.lo && nat_eq x.hi y.hi) ≡ true → x ≡ y
same_part x y h =
    let both = and_parts (nat_eq x.lo y.lo) (nat_eq x.hi y.hi) h in
    let lo = eqb-true x.lo y.lo both.0 in
    let hi = eqb-true x.hi y.hi both.1 in
    λ i. record { lo = lo i; hi = hi i }

pub same_set : (eq : Iv → Iv → Bool) → ((x y : Iv) → eq x y ≡ true → x ≡ y) → (s t : List Iv) → pointwise eq s t ≡ true → s ≡ t
same_set eq same [] [] h = refl
same_set eq same [] (y ∷ t) h = absurd (false≢true h)
same_set eq same (x ∷ s) [] h = absurd (false≢true h)
same_set eq same (x ∷ s) (y ∷ t) h =
    let both = and_parts (eq x y) (pointwise eq s t) h in
    ap (λ z. z ∷ s) (same x y both.0) ∙ ap (λ l. y ∷ l) (same_set eq same s t both.1)
