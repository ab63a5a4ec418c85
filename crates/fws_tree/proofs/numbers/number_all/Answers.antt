use Rattle.fws_tree.proofs.LeafNumbers.{slice_get-extends}
use Rattle.fws_tree.proofs.numbers.number_all.Goals as goal

pub returns-clause-different : goal.returns-clause-different
returns-clause-different g c = c.in_ok-numbers.ensures.different c.number.ensures.different

pub returns-clause-rest : goal.returns-clause-rest
returns-clause-rest g c = slice_get-extends c.number.new.leaves.keys c.number_rows.new.leaves.keys c.in_ok-rest.rest c.args.rest c.in_ok-numbers.ensures.extends c.in_ok-rest.ensures.place
