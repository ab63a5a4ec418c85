use Rattle.std.proofs.Common.{◌≡◌, ◌+◌, length, arith, ap, ◌∙◌}
use Rattle.fws_pf_print.specs.Printable.{are_named, tag_name}
use Rattle.fws_pf_put.proofs.NamesApart.{longer, named_more}
use Rattle.fws_pf_put.proofs.names.tag_names.Goals as goal

pub loop-number-preserved : goal.loop-number-preserved
loop-number-preserved c =
    let names = c.loop-number.names in
    let name = c.in_ok-tag_name.field-0 in
    let inv = c.loop-number.invariant in
    let e = c.in_ok-put.ensures.ok in
    let size = inv.1 in
    let here : c.loop-number.number ≡ 0 + length names = omega (arith, size) in (
      ap (are_named 0) e ∙ named_more 0 names name inv.0 (c.in_ok-tag_name.ensures ∙ ap tag_name here),
      ap length e ∙ longer names name ∙ ap (λ n. n + 1) inv.1,
    )
