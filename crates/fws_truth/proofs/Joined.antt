-- A truth value that is made of two.
use Rattle.std.proofs.Common.{◌≡◌, Bool, Option, Some, sym, ◌∙◌, ap}

some_once : {X : Type 0} (x y : X) → Some x ≡ Some y → x ≡ y
some_once x y e = cc

pub joined_at : (made : Bool → Bool → Bool) (va vb vt : Option Bool) (both : Option (Bool × Bool))
    → ((a : Bool) × (b : Bool) × (va ≡ Some a) × (vb ≡ Some b) × (both ≡ Some (a, b)))
    → ((x : Bool × Bool) × (both ≡ Some x) × (vt ≡ Some (made x.0 x.1)))
    → (a : Bool) × (b : Bool) × (va ≡ Some a) × (vb ≡ Some b) × (vt ≡ Some (made a b))
joined_at made va vb vt both two mixed =
    let a : Bool = two.0 in
    let b : Bool = two.1 in
    let ab : Bool × Bool = (a, b) in
    let same : mixed.0 ≡ ab = some_once mixed.0 ab (sym mixed.1 ∙ two.4) in
    let seen : Bool × Bool → Option Bool = λ x. Some (made x.0 x.1) in
    (a, b, two.2, two.3, mixed.2 ∙ ap seen same)
