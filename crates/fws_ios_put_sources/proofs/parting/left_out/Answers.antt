use Rattle.fws_ios_put_sources.proofs.Parts.{as_wide}
use Rattle.fws_ios_put_sources.proofs.parting.left_out.Goals as goal

pub returns-in-Ok-None-clause-wider : goal.returns-in-Ok-None-clause-wider
returns-in-Ok-None-clause-wider c = as_wide c.args.sets
