-- Equal sets.
use Rattle.std.proofs.Common.{◌≡◌, Bool, true, ◌&&◌, nat_eq, refl, ap, ◌∙◌, subst, eqb-true, eq-eqb}
use Rattle.std.specs.Bool.{Decides}
use Rattle.std.proofs.lemmas.Bool.{and_parts}
use Rattle.fws_iv.specs.declared.iv.Iv.{Iv}

iv_exact : (x y : Iv) → (nat_eq x.lo y.lo && nat_eq x.hi y.hi) ≡ true → x ≡ y
iv_exact x y h =
    let both = and_parts (nat_eq x.lo y.lo) (nat_eq x.hi y.hi) h in
    let lo = eqb-true x.lo y.lo both.0 in
    let hi = eqb-true x.hi y.hi both.1 in
    λ i. record { lo = lo i; hi = hi i }

-- intervals are equal just where their ends are
pub iv_decides : (x y : Iv) → Decides (nat_eq x.lo y.lo && nat_eq x.hi y.hi) (x ≡ y)
iv_decides x y = (
  iv_exact x y,
  λ e. subst (λ (z : Iv). (nat_eq x.lo z.lo && nat_eq x.hi z.hi) ≡ true) e (ap (λ b. b && nat_eq x.hi x.hi) (eq-eqb x.lo x.lo refl) ∙ eq-eqb x.hi x.hi refl),
)
