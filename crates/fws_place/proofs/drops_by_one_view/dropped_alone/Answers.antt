use Rattle.std.proofs.Common.{◌≡◌, ℕ, Bool, Some, List, sym, subst}
use Rattle.std.proofs.lemmas.Result.{IfOk-weaker}
use Rattle.std.specs.Prelude.{◌&&◌, not}
use Rattle.fws_box.specs.Sides.{IsWithin}
use Rattle.fws_tree.specs.Plain.{Plain, value}
use Rattle.fws_place.proofs.Viewing.{alone_at}
use Rattle.fws_place.proofs.drops_by_one_view.dropped_alone.Goals as goal

pub returns-clause-value : goal.returns-clause-value
returns-clause-value c =
    let a = c.args.accepted.now in
    let b = c.args.packet.now in
    let d = c.args.behind.now in
    let all = c.in_ok-all.all in
    let P : List ℕ × Plain Bool → Type 0 = λ t. (q : List ℕ) → IsWithin all.0 q → (x : Bool × (Bool × Bool)) × (value all.1 q ≡ Some x) × (value t.1 q ≡ Some (not x.0 && x.1.0 && x.1.1)) in
    let Q : List ℕ × Plain Bool → Type 0 = λ t. (q : List ℕ) → IsWithin a.0 q → (x : Bool) × (y : Bool) × (z : Bool) × (value a.1 q ≡ Some x) × (value b.1 q ≡ Some y) × (value d.1 q ≡ Some z)
    × (value t.1 q ≡ Some (not x && y && z)) in
    IfOk-weaker c.relabel.result P Q
    (λ t h q w. alone_at (value a.1 q) (value b.1 q) (value d.1 q) (value t.1 q) (value all.1 q) (c.in_ok-all.ensures.value q w)
    (h q (subst (λ ts. IsWithin ts q) (sym c.in_ok-all.ensures.tops) w)))
    c.relabel.ensures.value
