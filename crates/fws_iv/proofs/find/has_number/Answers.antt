use Rattle.std.proofs.Common.{◌∙◌, sym, arith, drop, slice_index_or, ◌+◌}
use Rattle.std.proofs.lemmas.List.{at_drop_more}
use Rattle.fws_iv.specs.declared.iv.Iv.{Iv}
use Rattle.fws_iv.specs.Ivs.{has}
use Rattle.fws_iv.proofs.Parts.{regular-drop, regular_at, first_decides}
use Rattle.fws_iv.proofs.find.has_number.Goals as goal

pub returns-then-i-parts : goal.returns-then-i-parts
returns-then-i-parts c =
    let parts = c.args.parts.now in
    let i = c.first_reaching-i.result in
    let none : Iv = record { lo = 0; hi = 0 } in
    let here = regular_at 0 parts i none c.if-i-parts.true (regular-drop 0 parts i c.requires) in
    first_decides 0 (slice_index_or parts i none) (drop (i + 1) parts) c.args.v here (c.first_reaching-i.ensures.reaches none c.if-i-parts.true)
    ∙ sym (c.first_reaching-i.ensures.members c.args.v (omega arith) ∙ at_drop_more (λ s. has s c.args.v) parts i none c.if-i-parts.true)
