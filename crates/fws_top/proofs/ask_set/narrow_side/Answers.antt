use Rattle.std.proofs.Common.{◌∙◌, sym}
use Rattle.fws_top.proofs.AskSets.{side_narrowed}
use Rattle.fws_top.proofs.ask_set.narrow_side.Goals as goal

pub returns : goal.returns
returns c =
    side_narrowed c.args.site.now c.args.subject c.args.set.now c.args.sides.now c.number_of-field.result c.index-sides-field.result c.in_ok-values.values c.in_ok-sides.field-0
    c.told-sides c.requires.field c.number_of-field.ensures (sym c.is.ensures ∙ c.if-is.false) c.in_ok-values.ensures c.in_ok-sides.ensures
