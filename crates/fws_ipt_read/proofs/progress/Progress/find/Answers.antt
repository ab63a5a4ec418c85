use Rattle.std.proofs.Common.{ap, ◌∙◌, map}
use Rattle.fws_ipt_read.specs.Keys.{key_of}
use Rattle.fws_ipt_read.proofs.Keys.{found}
use Rattle.fws_ipt_read.proofs.progress.Progress.find.Goals as goal

pub returns : goal.returns
returns c =
    found c.args.table c.args.name.now c.args.self.now.chains c.self.inside.names _
    (c.self.invariant ∙ ap (λ d. map key_of d.chains) c.self.view_is) c.in_ok-find.ensures
