use Rattle.std.proofs.Common.{◌≡◌, ℕ, ◌-◌, ◌<◌, Bool, IsTrue, ◌↔◌, Some, List, length, sym, ◌∙◌, subst, arith}
use Rattle.std.proofs.lemmas.List.{get_or_default}
use Rattle.std.proofs.lemmas.Result.{IfOk-weaker}
use Rattle.fws_box.specs.Sides.{IsWithin}
use Rattle.fws_tree.specs.Changed.{IsTrueSomewhere}
use Rattle.fws_tree.specs.Shared.{subtree_of}
use Rattle.fws_tree.specs.Held.{held_at}
use Rattle.fws_tree.specs.Plain.{IsReduced, value}
use Rattle.fws_tree.specs.Projected.{Tells}
use Rattle.fws_tree.proofs.Projecting.{told_value}
use Rattle.fws_tree.proofs.exists.Tree+bool.exists.Goals as goal

root_told : (c : goal.After-drop-store-inside-5) (p : List ℕ) → IsWithin c.tops-tops.result.now p → Tells c.tops-tops.result.now c.args.fields c.args.self.now.1 p (held_at c.project.new.store c.index-root.result.now p)
root_told c p w =
    let k : ℕ = length c.shared-shared.result.nodes.now - 1 in
    let some = c.shared-shared.ensures.some in
    let many = c.in_ok-at.ensures.many in
    let lt : k < length c.in_ok-at.at.items = omega arith in
    subst (λ t. Tells c.tops-tops.result.now c.args.fields t p (held_at c.project.new.store c.index-root.result.now p)) (sym c.shared-shared.ensures.last)
    (subst (λ r. Tells c.tops-tops.result.now c.args.fields (subtree_of c.shared-shared.result.leaves.now c.shared-shared.result.nodes.now k) p (held_at c.project.new.store r p)) (sym (c.index-root.ensures ∙ get_or_default c.in_ok-at.at.items k c.index-root.result.now 0 lt)) (c.in_ok-at.ensures.projected.tells k lt p w))

pub returns-clause-value : goal.returns-clause-value
returns-clause-value c = IfOk-weaker c.finish.result _ _ (λ t is p w.
    let v = subst (λ ts. IsWithin ts p) (sym c.tops-tops.ensures.value) w in
    subst (λ ts. (b : Bool) × (value t.1 p ≡ Some b) × (IsTrue b ↔ IsTrueSomewhere ts c.args.fields c.args.self.now.1 p)) c.tops-tops.ensures.value
    (told_value c.tops-tops.result.now c.args.fields c.args.self.now.1 p (held_at c.project.new.store c.index-root.result.now p) (value t.1 p)
    (subst (λ ts. IsReduced ts c.args.self.now.1) (sym c.tops-tops.ensures.value) c.tops-tops.ensures.reduced) (root_told c p v) (is p v))) c.finish.ensures.value
