use Rattle.std.proofs.Common.{arith}
use Rattle.fws_tree.proofs.Steps.{view_held, view_below}
use Rattle.fws_tree.proofs.together.view.Goals as goal

pub returns-then-f-field-clause-held : goal.returns-then-f-field-clause-held
returns-then-f-field-clause-held c = λ p. view_held _ _ _ _ _ _ _ _ p c.requires.ordered c.cell.ensures c.in-Cut.is c.if-f-field.true c.as_slice.ensures

pub returns-then-f-field-clause-below : goal.returns-then-f-field-clause-below
returns-then-f-field-clause-below c = λ k d lt.
    let b = (view_below _ _ _ _ _ _ _ c.requires.ordered c.cell.ensures c.in-Cut.is c.as_slice.ensures).0 k d lt in omega arith

pub returns-then-f-field-clause-last : goal.returns-then-f-field-clause-last
returns-then-f-field-clause-last c =
    let b = (view_below _ _ _ _ _ _ _ c.requires.ordered c.cell.ensures c.in-Cut.is c.as_slice.ensures).1 in omega arith

pub returns-then-f-field-clause-strict : goal.returns-then-f-field-clause-strict
returns-then-f-field-clause-strict c = λ d e f. view_below _ _ _ _ _ _ _ c.requires.ordered c.cell.ensures c.in-Cut.is c.as_slice.ensures
