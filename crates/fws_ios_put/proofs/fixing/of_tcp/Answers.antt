use Rattle.std.proofs.Common.{◌≡◌, ℕ, List, ap, ◌∙◌, arith}
use Rattle.std.specs.Prelude.{slice_index, slice_set}
use Rattle.fws_iv.specs.declared.iv.Iv.{Iv}
use Rattle.fws_iv.specs.Ivs.{has}
use Rattle.fws_box.specs.Sides.{IsWithin, sides_have, whole_sides}
use Rattle.fws_net.specs.Points.{tops_of}
use Rattle.fws_ios_put.specs.Choices.{is_tcp}
use Rattle.fws_ios_put.proofs.Framing.{one_side}
use Rattle.fws_ios_put.proofs.Parting.{six_alone}
use Rattle.fws_ios_put.proofs.MadeTrees.{made_part, tcp_listed}
use Rattle.fws_ios_put.proofs.fixing.of_tcp.Goals as goal

pub returns : goal.returns
returns c =
    let site = c.args.site.now in
    let sides : List (List Iv) = slice_set c.in_ok-sides.sides 1 c.in_ok-sides-2.field-0 in
    let sided : (x : List ℕ) → IsWithin (tops_of site) x → sides_have sides x ≡ is_tcp x = λ x w.
    ap (λ (ss : List (List Iv)). sides_have (slice_set ss 1 c.in_ok-sides-2.field-0) x) (c.in_ok-sides.ensures ∙ ap whole_sides c.tops-tops.ensures)
    ∙ one_side 1 c.in_ok-sides-2.field-0 (tops_of site) x (omega arith) w ∙ ap (λ (s : List Iv). has s (slice_index x 1)) c.in_ok-sides-2.ensures ∙ six_alone (slice_index x 1) in
    let made = made_part site is_tcp c.args.tree.now c.in_ok-part.part sides c.requires.tree c.in_ok-part.ensures.tops (tcp_listed site) sided c.in_ok-part.ensures.value in
    record { askable = made.0; value = made.1 }
