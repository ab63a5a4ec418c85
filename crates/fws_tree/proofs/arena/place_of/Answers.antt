use Rattle.fws_tree.proofs.Places.{different}
use Rattle.fws_tree.proofs.arena.place_of.Goals as goal

pub returns-in_err-insert_full-clause-different : goal.returns-in_err-insert_full-clause-different
returns-in_err-insert_full-clause-different g c = different _ g.met.T.Eq.laws _ c.insert_full.ensures.unique

pub returns-clause-different : goal.returns-clause-different
returns-clause-different g c = different _ g.met.T.Eq.laws _ c.insert_full.ensures.unique
