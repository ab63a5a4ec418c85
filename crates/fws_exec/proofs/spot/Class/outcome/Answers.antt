use Rattle.std.proofs.Common.{sym, ◌∙◌, ap}
use Rattle.fws_exec.specs.Stages.{spot_outcome}
use Rattle.fws_exec.proofs.Meaning.{own_outcome}
use Rattle.fws_exec.proofs.spot.Class.outcome.Goals as goal

pub returns-in-Before : goal.returns-in-Before
returns-in-Before c =
    own_outcome c.args.state c.args.self.now.progress c.in-Before.field-0 c.outcome.result c.outcome.ensures
    ∙ ap (spot_outcome c.args.state c.args.self.now.progress.wrote) (sym c.in-Before.is)
