use Rattle.fws_tree.proofs.Places.{different}
use Rattle.fws_tree.proofs.numbers.number.Goals as goal

pub returns-in_err-place-clause-different : goal.returns-in_err-place-clause-different
returns-in_err-place-clause-different g c = different _ g.met.L.Eq.laws _ c.insert_full.ensures.unique

pub returns-in-Ok-clause-different : goal.returns-in-Ok-clause-different
returns-in-Ok-clause-different g c = different _ g.met.L.Eq.laws _ c.insert_full.ensures.unique

pub returns-in-Err-clause-different : goal.returns-in-Err-clause-different
returns-in-Err-clause-different g c = different _ g.met.L.Eq.laws _ c.insert_full.ensures.unique
