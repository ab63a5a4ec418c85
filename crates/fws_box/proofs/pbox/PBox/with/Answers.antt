use Rattle.std.proofs.Common.{sym, ap, length, ◌∙◌, set}
use Rattle.std.proofs.lemmas.Bool.{eqb-false}
use Rattle.fws_box.specs.Boxes.{sides_of}
use Rattle.fws_box.proofs.Placed.{seen_set, filled_set, regular_set}
use Rattle.fws_box.proofs.pbox.PBox.with.Goals as goal

pub invariant_of-result-clause-filled : goal.invariant_of-result-clause-filled
invariant_of-result-clause-filled c = filled_set c.args.self.now.sides c.place.result c.args.side (λ e. let n = eqb-false (length c.args.side.now) 0 (sym c.is_empty.ensures ∙ c.if-is_empty.false) in n (ap length e)) c.args.self.now.filled

pub invariant_of-result-clause-regular : goal.invariant_of-result-clause-regular
invariant_of-result-clause-regular c = regular_set c.args.self.now.sides c.place.result c.args.side c.requires c.args.self.now.regular

pub returns : goal.returns
returns c = seen_set c.args.self.now.sides c.place.result c.args.side ∙ ap (λ k. set (sides_of c.args.self.now) k c.args.side.now) c.place.ensures.place
