-- What the derived tests of equality hold equal is equal.
use Rattle.std.proofs.Common.{◌≡◌, ℕ, Bool, true, false, ◌&&◌, List, [], ◌∷◌, refl, ◌∙◌, ap, nat_eq}
use Rattle.std.proofs.lemmas.Bool.{and_parts, eqb-true, false≢true}
use Rattle.std.specs.Cmp.Lexicographic.{pointwise}
use Rattle.fws_iv.specs.declared.iv.Iv.{Iv}
use Rattle.fws_tree.specs.declared.node.Kid.{Kid}
use Rattle.fws_tree.specs.declared.node.Node.{Node}
use Rattle.fws_tree.specs.declared.node.Node.TheVariants.{Leaf, Cut}

pub pointwise-exact : {X : Type 0} (eq : X → X → Bool) → ((x y : X) → eq x y ≡ true → x ≡ y) → (xs ys : List X) → pointwise eq xs ys ≡ true → xs ≡ ys
pointwise-exact eq same [] [] h = refl
pointwise-exact eq same [] (y ∷ ys) h = absurd (false≢true h)
pointwise-exact eq same (x ∷ xs) [] h = absurd (false≢true h)
pointwise-exact eq same (x ∷ xs) (y ∷ ys) h =
    let p = and_parts (eq x y) (pointwise eq xs ys) h in
    ap (λ z. z ∷ xs) (same x y p.0) ∙ ap (λ zs. y ∷ zs) (pointwise-exact eq same xs ys p.1)

abbrev iv_eq : Iv → Iv → Bool
iv_eq x y = nat_eq x.lo y.lo && nat_eq x.hi y.hi

pub iv_exact : (x y : Iv) → iv_eq x y ≡ true → x ≡ y
iv_exact x y h =
    let p = and_parts (nat_eq x.lo y.lo) (nat_eq x.hi y.hi) h in
    let mk : ℕ → ℕ → Iv = λ a b. record { lo = a; hi = b } in
    ap (λ a. mk a x.hi) (eqb-true x.lo y.lo p.0) ∙ ap (λ b. mk y.lo b) (eqb-true x.hi y.hi p.1)

abbrev kid_eq : Kid → Kid → Bool
kid_eq x y = pointwise iv_eq x.set y.set && nat_eq x.node y.node

pub kid_exact : (x y : Kid) → kid_eq x y ≡ true → x ≡ y
kid_exact x y h =
    let p = and_parts (pointwise iv_eq x.set y.set) (nat_eq x.node y.node) h in
    let mk : List Iv → ℕ → Kid = λ s n. record { set = s; node = n } in
    ap (λ s. mk s x.node) (pointwise-exact iv_eq iv_exact x.set y.set p.0) ∙ ap (λ n. mk y.set n) (eqb-true x.node y.node p.1)

pub never : (x y : Node) → false ≡ true → x ≡ y
never x y h = absurd (false≢true h)

pub leaf_exact : (m n : ℕ) → nat_eq m n ≡ true → Leaf m ≡ Leaf n
leaf_exact m n h = ap Leaf (eqb-true m n h)

pub cut_exact : (f g : ℕ) (ks js : List Kid) → (nat_eq f g && pointwise kid_eq ks js) ≡ true → Cut f ks ≡ Cut g js
cut_exact f g ks js h =
    let p = and_parts (nat_eq f g) (pointwise kid_eq ks js) h in
    ap (λ z. Cut z ks) (eqb-true f g p.0) ∙ ap (λ zs. Cut g zs) (pointwise-exact kid_eq kid_exact ks js p.1)
