use Rattle.fws_tree.proofs.Covering.{mask_leaf, mask_cut, cut_inside}
use Rattle.fws_tree.proofs.masks.mask_of.Goals as goal

pub returns-in-Leaf : goal.returns-in-Leaf
returns-in-Leaf c = λ p. mask_leaf _ _ _ _ _ _ p c.requires.ordered c.cell.ensures c.in-Leaf.is c.bits_of.ensures

pub joined-requires-clause-steps : goal.joined-requires-clause-steps
joined-requires-clause-steps c = (cut_inside _ _ _ _ _ _ _ _ c.requires.ordered c.cell.ensures c.in-Cut.is c.as_slice.ensures c.requires.next).0

pub joined-requires-clause-last : goal.joined-requires-clause-last
joined-requires-clause-last c = (cut_inside _ _ _ _ _ _ _ _ c.requires.ordered c.cell.ensures c.in-Cut.is c.as_slice.ensures c.requires.next).1

pub returns-in-Cut : goal.returns-in-Cut
returns-in-Cut c = λ p. mask_cut _ _ c.args.masks.now _ _ _ _ _ c.as_slice.result.now _ p c.requires.ordered c.cell.ensures c.in-Cut.is c.as_slice.ensures c.requires.next c.requires.masks c.joined.ensures
