use Rattle.fws_tree.proofs.MetPairs.{extends_if}
use Rattle.fws_tree.proofs.pairing.PairsMerging.early.Goals as goal

pub returns-in-Err-clause-later : goal.returns-in-Err-clause-later
returns-in-Err-clause-later c = extends_if c.args.self.now.met.keys c.place_of.new.kept.keys (c.in-Some.x, c.in-Some-held_by.y) c.in_ok-place.field-0-1 c.in_ok-place.ensures.grown

pub returns-in_err-cell-clause-later : goal.returns-in_err-cell-clause-later
returns-in_err-cell-clause-later c = extends_if c.args.self.now.met.keys c.place_of.new.kept.keys (c.in-Some.x, c.in-Some-held_by.y) c.in_ok-place.field-0-1 c.in_ok-place.ensures.grown

pub returns-clause-later : goal.returns-clause-later
returns-clause-later c = extends_if c.args.self.now.met.keys c.place_of.new.kept.keys (c.in-Some.x, c.in-Some-held_by.y) c.in_ok-place.field-0-1 c.in_ok-place.ensures.grown
