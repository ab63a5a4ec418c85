use Rattle.fws_top.proofs.RegularTables.{regular_tables}
use Rattle.fws_top.proofs.laws.regular_walks_make_regular_tables.Goals as goal

pub returns : goal.returns
returns c = λ site walk tables regular made. regular_tables site walk regular tables made
