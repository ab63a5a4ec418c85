use Rattle.std.proofs.Common.{◌≡◌, ℕ, Bool, Some, List, ◌∙◌, subst, IsTrue}
use Rattle.std.specs.Prelude.{◌↔◌}
use Rattle.fws_box.specs.Sides.{IsWithin}
use Rattle.fws_net.specs.Points.{tops_of}
use Rattle.fws_tree.specs.Changed.{IsTrueSomewhere}
use Rattle.fws_tree.specs.Plain.{value}
use Rattle.fws_ios_put.specs.Choices.{framed, truth}
use Rattle.fws_ios_put.proofs.Framing.{fixed_value, framed_listed}
use Rattle.fws_ios_put.proofs.MadeTrees.{askable_by, truth_is}
use Rattle.fws_ios_put.proofs.fixing.fixed.Goals as goal

pub returns : goal.returns
returns c =
    let site = c.args.site.now in
    let entry = c.args.entry in
    let flags = c.args.flags in
    let tree = c.args.tree.now in
    let part = c.in_ok-part.part in
    let fixed = c.in_ok-fixed.fixed in
    let part_tops : part.0 ≡ tops_of site = c.in_ok-part.ensures.tops ∙ c.requires.tops in
    let projected : (x : List ℕ) → IsWithin (tops_of site) x → (b : Bool) × (value fixed.1 x ≡ Some b) × (IsTrue b ↔ IsTrueSomewhere (tops_of site) 65 part.1 x) =
    subst (λ (ts : List ℕ). (x : List ℕ) → IsWithin ts x → (b : Bool) × (value fixed.1 x ≡ Some b) × (IsTrue b ↔ IsTrueSomewhere ts 65 part.1 x)) part_tops c.in_ok-fixed.ensures.value in
    let is : (x : List ℕ) → IsWithin (tops_of site) x → value fixed.1 x ≡ Some (truth tree.1 (framed entry flags x)) =
    fixed_value site entry flags tree.1 part.1 fixed.1 c.requires.entry c.requires.flags c.in_ok-part.ensures.value projected in
    record {
      askable = askable_by site fixed (λ x. truth tree.1 (framed entry flags x)) (c.in_ok-fixed.ensures.tops ∙ part_tops) is
          (framed_listed site tree.1 c.requires.told entry flags c.requires.entry c.requires.flags);
      value = λ x w. truth_is fixed.1 x (truth tree.1 (framed entry flags x)) (is x w);
    }
