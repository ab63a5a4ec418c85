-- What the derived tests of equality hold equal is equal.
use Rattle.std.proofs.Common.{◌≡◌, ℕ, Bool, true, false, ◌&&◌, List, [], ◌∷◌, refl, ◌∙◌, ap, nat_eq}
use Rattle.std.proofs.lemmas.Bool.{and_parts, eqb-true, false≢true}
use Rattle.std.specs.Cmp.Lexicographic.{pointwise}
use Rattle.fws_tree.specs.declared.store.Step.{Step}
use Rattle.fws_tree.specs.declared.store.Cell.{Cell}
use Rattle.fws_tree.specs.declared.store.Cell.TheVariants.{Leaf, Cut}

pub pointwise-exact : {X : Type 0} (eq : X → X → Bool) → ((x y : X) → eq x y ≡ true → x ≡ y) → (xs ys : List X) → pointwise eq xs ys ≡ true → xs ≡ ys
pointwise-exact eq same [] [] h = refl
pointwise-exact eq same [] (y ∷ ys) h = absurd (false≢true h)
pointwise-exact eq same (x ∷ xs) [] h = absurd (false≢true h)
pointwise-exact eq same (x ∷ xs) (y ∷ ys) h =
    let p = and_parts (eq x y) (pointwise eq xs ys) h in
    ap (λ z. z ∷ xs) (same x y p.0) ∙ ap (λ zs. y ∷ zs) (pointwise-exact eq same xs ys p.1)

abbrev step_eq : Step → Step → Bool
step_eq x y = nat_eq x.hi y.hi && nat_eq x.node y.node

pub step_exact : (x y : Step) → step_eq x y ≡ true → x ≡ y
step_exact x y h =
    let p = and_parts (nat_eq x.hi y.hi) (nat_eq x.node y.node) h in
    let mk : ℕ → ℕ → Step = λ a b. record { hi = a; node = b } in
    ap (λ a. mk a x.node) (eqb-true x.hi y.hi p.0) ∙ ap (λ b. mk y.hi b) (eqb-true x.node y.node p.1)

pub never : (x y : Cell) → false ≡ true → x ≡ y
never x y h = absurd (false≢true h)

pub leaf_exact : (m n : ℕ) → nat_eq m n ≡ true → Leaf m ≡ Leaf n
leaf_exact m n h = ap Leaf (eqb-true m n h)

pub cut_exact : (f g : ℕ) (ss ts : List Step) (l k : ℕ) → (nat_eq f g && (pointwise step_eq ss ts && nat_eq l k)) ≡ true → Cut f ss l ≡ Cut g ts k
cut_exact f g ss ts l k h =
    let p = and_parts (nat_eq f g) (pointwise step_eq ss ts && nat_eq l k) h in
    let q = and_parts (pointwise step_eq ss ts) (nat_eq l k) p.1 in
    ap (λ z. Cut z ss l) (eqb-true f g p.0) ∙ ap (λ zs. Cut g zs l) (pointwise-exact step_eq step_exact ss ts q.0) ∙ ap (λ z. Cut g ts z) (eqb-true l k q.1)
