use Rattle.fws_net.proofs.Entries.{are_entries}
use Rattle.fws_net.proofs.routes.routes_are_entries.Goals as goal

pub returns : goal.returns
returns c = are_entries
