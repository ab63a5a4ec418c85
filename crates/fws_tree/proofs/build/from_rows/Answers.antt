use Rattle.std.proofs.lemmas.Result.{IfOk-weaker}
use Rattle.fws_tree.proofs.build.from_rows.Goals as goal

pub from_numbered-requires-clause-rest : goal.from_numbered-requires-clause-rest
from_numbered-requires-clause-rest g c = (c.args.rest, c.in_ok-numbered.ensures.rest)

pub returns-clause-value : goal.returns-clause-value
returns-clause-value g c = IfOk-weaker c.from_numbered.result _ _ (λ t is p w. is p c.args.rest w c.in_ok-numbered.ensures.rest) c.from_numbered.ensures.value
