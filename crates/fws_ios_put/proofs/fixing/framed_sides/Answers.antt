use Rattle.std.proofs.Common.{List, [], ◌∷◌, ◌&&◌, ap, ◌∙◌, arith}
use Rattle.std.specs.Prelude.{slice_index, slice_set}
use Rattle.fws_iv.specs.declared.iv.Iv.{Iv}
use Rattle.fws_iv.specs.Ivs.{has}
use Rattle.fws_box.specs.Sides.{sides_have, whole_sides}
use Rattle.fws_net.specs.Points.{tops_of}
use Rattle.fws_ios_put.proofs.Framing.{two_sides}
use Rattle.fws_ios_put.proofs.fixing.framed_sides.Goals as goal

pub returns : goal.returns
returns c = λ q w.
    let site = c.args.site.now in
    let entry = c.args.entry in
    let a = c.in_ok-sides-2.field-0 in
    let s = c.in_ok-sides-3.field-0 in
    ap (λ (ss : List (List Iv)). sides_have (slice_set (slice_set ss 0 a) 6 s) q) (c.in_ok-sides.ensures ∙ ap whole_sides c.tops-tops.ensures)
    ∙ two_sides 5 a s (tops_of site) q (omega arith) w
    ∙ ap (λ (e : List Iv). has e (slice_index q 0) && has s (slice_index q 6)) c.in_ok-sides-2.ensures
    ∙ ap (λ (f : List Iv). has (record { lo = entry; hi = entry } ∷ []) (slice_index q 0) && has f (slice_index q 6)) c.in_ok-sides-3.ensures
