use Rattle.std.proofs.Common.{length, get_or, ◌∙◌, ap}
use Rattle.std.proofs.lemmas.Result.{IfOk-weaker}
use Rattle.fws_tree.specs.Held.{held_at}
use Rattle.fws_tree.specs.Loaded.{named_cell}
use Rattle.fws_tree.proofs.load.load_cut.Goals as goal

pub cut-requires-clause-below : goal.cut-requires-clause-below
cut-requires-clause-below c = (c.in_ok-cells.ensures.below (length c.args.store.now) c.requires.at c.requires.rest).0

pub cut-requires-clause-last : goal.cut-requires-clause-last
cut-requires-clause-last c = (c.in_ok-cells.ensures.below (length c.args.store.now) c.requires.at c.requires.rest).1

pub returns-clause-held : goal.returns-clause-held
returns-clause-held c = IfOk-weaker c.cut.result _ _ (λ r h p le. h p
    ∙ ap (λ n. held_at c.args.store.now n p) (c.in_ok-cells.ensures.value (get_or p c.args.field 0) ∙ ap (named_cell c.args.at.now c.args.rest) (c.in_ok-numbers.ensures (get_or p c.args.field 0) le))) c.cut.ensures.held
