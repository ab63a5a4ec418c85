use Rattle.std.proofs.Common.{◌≡◌, ℕ, Bool, ◌&&◌, Some, List, sym, subst}
use Rattle.std.proofs.lemmas.Result.{IfOk-weaker}
use Rattle.fws_box.specs.Sides.{IsWithin}
use Rattle.fws_tree.specs.Plain.{Plain, value}
use Rattle.fws_truth.specs.Truths.{AreJoined}
use Rattle.fws_truth.proofs.Joined.{joined_at}
use Rattle.fws_truth.proofs.joining.both.Goals as goal

pub returns-clause-value : goal.returns-clause-value
returns-clause-value c =
    let a = c.args.first.now in
    let b = c.args.second.now in
    let pairs = c.in_ok-pairs.pairs in
    let made : Bool → Bool → Bool = λ x y. x && y in
    let P : List ℕ × Plain Bool → Type 0 = λ t. (q : List ℕ) → IsWithin pairs.0 q → (x : Bool × Bool) × (value pairs.1 q ≡ Some x) × (value t.1 q ≡ Some (made x.0 x.1)) in
    let Q : List ℕ × Plain Bool → Type 0 = λ t. AreJoined made a.0 a.1 b.1 t.1 in
    IfOk-weaker c.relabel.result P Q
    (λ t h q w. joined_at made (value a.1 q) (value b.1 q) (value t.1 q) (value pairs.1 q) (c.in_ok-pairs.ensures.value q w)
    (h q (subst (λ (ts : List ℕ). IsWithin ts q) (sym c.in_ok-pairs.ensures.tops) w)))
    c.relabel.ensures.value
