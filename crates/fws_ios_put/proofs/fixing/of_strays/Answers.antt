use Rattle.std.proofs.Common.{◌≡◌, ℕ, List, ap, ◌∙◌, arith}
use Rattle.std.specs.Prelude.{slice_index, slice_set}
use Rattle.fws_iv.specs.declared.iv.Iv.{Iv}
use Rattle.fws_box.specs.Sides.{IsWithin, sides_have, whole_sides}
use Rattle.fws_net.specs.Points.{tops_of}
use Rattle.fws_ios_put.specs.Choices.{is_stray}
use Rattle.fws_ios_put.proofs.Framing.{one_side}
use Rattle.fws_ios_put.proofs.Parting.{destination_low}
use Rattle.fws_ios_put.proofs.MadeTrees.{made_part, strays_listed}
use Rattle.fws_ios_put.proofs.fixing.of_strays.Goals as goal

pub returns : goal.returns
returns c =
    let site = c.args.site.now in
    let sides : List (List Iv) = slice_set c.in_ok-sides.sides 2 c.in_ok-sides-2.field-0 in
    let sided : (x : List ℕ) → IsWithin (tops_of site) x → sides_have sides x ≡ is_stray site x = λ x w.
    ap (λ (ss : List (List Iv)). sides_have (slice_set ss 2 c.in_ok-sides-2.field-0) x) (c.in_ok-sides.ensures ∙ ap whole_sides c.tops-tops.ensures)
    ∙ one_side 2 c.in_ok-sides-2.field-0 (tops_of site) x (omega arith) w ∙ c.in_ok-sides-2.ensures (slice_index x 2) (destination_low site x w) in
    let made = made_part site (is_stray site) c.args.tree.now c.in_ok-part.part sides c.requires.tree c.in_ok-part.ensures.tops (strays_listed site) sided c.in_ok-part.ensures.value in
    record { askable = made.0; value = made.1 }
