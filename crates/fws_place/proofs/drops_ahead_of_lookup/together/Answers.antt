use Rattle.std.proofs.Common.{◌≡◌, ℕ, Bool, Some, List, sym, subst}
use Rattle.std.proofs.lemmas.Result.{IfOk-weaker}
use Rattle.fws_box.specs.Sides.{IsWithin}
use Rattle.fws_tree.specs.Plain.{Plain, value}
use Rattle.fws_place.proofs.Dropping.{together_at}
use Rattle.fws_place.proofs.drops_ahead_of_lookup.together.Goals as goal

pub returns-clause-value : goal.returns-clause-value
returns-clause-value c =
    let a = c.args.first.now in
    let b = c.args.second.now in
    let d = c.args.third.now in
    let both = c.in_ok-both.both in
    let P : List ℕ × Plain (Bool × (Bool × Bool)) → Type 0
    = λ t. (q : List ℕ) → IsWithin a.0 q → (x : Bool) × (yz : Bool × Bool) × (value a.1 q ≡ Some x) × (value both.1 q ≡ Some yz) × (value t.1 q ≡ Some (x, yz)) in
    let Q : List ℕ × Plain (Bool × (Bool × Bool)) → Type 0
    = λ t. (q : List ℕ) → IsWithin a.0 q → (x : Bool) × (y : Bool) × (z : Bool) × (value a.1 q ≡ Some x) × (value b.1 q ≡ Some y) × (value d.1 q ≡ Some z)
    × (value t.1 q ≡ Some (x, (y, z))) in
    IfOk-weaker c.pair-2.result P Q
    (λ t h q w. together_at (value a.1 q) (value b.1 q) (value d.1 q) (value both.1 q) (value t.1 q)
    (c.in_ok-both.ensures.value q (subst (λ ts. IsWithin ts q) (sym c.requires.second) w)) (h q w))
    c.pair-2.ensures.value
