use Rattle.std.proofs.Common.{◌≡◌, ℕ, Bool, Some, List, ◌∙◌, subst, IsTrue}
use Rattle.std.specs.Prelude.{◌↔◌}
use Rattle.fws_box.specs.Sides.{IsWithin}
use Rattle.fws_tree.specs.Changed.{IsTrueSomewhere}
use Rattle.fws_tree.specs.Plain.{value}
use Rattle.fws_ios_put.proofs.Framing.{nowhere_by, zeros_within}
use Rattle.fws_ios_put.proofs.fixing.is_somewhere.Goals as goal

pub lookup-requires : goal.lookup-requires
lookup-requires c = zeros_within c.args.site.now c.in_ok-all.all.0 (c.in_ok-all.ensures.tops ∙ c.requires)

pub returns : goal.returns
returns c = λ none.
    let site = c.args.site.now in
    let tree = c.args.tree.now in
    let all = c.in_ok-all.all in
    nowhere_by site tree.1 all.1 c.lookup.result.now c.lookup.ensures none
    (subst (λ (ts : List ℕ). (x : List ℕ) → IsWithin ts x → (b : Bool) × (value all.1 x ≡ Some b) × (IsTrue b ↔ IsTrueSomewhere ts 4095 tree.1 x)) c.requires c.in_ok-all.ensures.value)
