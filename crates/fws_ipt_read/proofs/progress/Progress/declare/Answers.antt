use Rattle.std.proofs.Common.{refl, ap, sym, ◌∙◌, map}
use Rattle.fws_ipt_read.specs.Keys.{key_of}
use Rattle.fws_ipt_read.proofs.Keys.{with_absent, with_declared}
use Rattle.fws_ipt_read.proofs.progress.Progress.declare.Goals as goal

pub invariant_of-self-in-Ok : goal.invariant_of-self-in-Ok
invariant_of-self-in-Ok c =
    with_declared c.args.table c.args.name.now c.args.name.now _ c.args.self.now.chains _ c.self.inside.names _ _ c.self.invariant (ap (λ d. d.chains) c.self.view_is)
    c.requires c.in_ok-put.ensures.ok refl refl c.in-Ok.ensures.ok

pub invariant_of-self-in-Err : goal.invariant_of-self-in-Err
invariant_of-self-in-Err c =
    c.remove_last.ensures (map key_of c.self.inside.draft.chains) _
    (with_absent c.args.table c.args.name.now _ c.args.self.now.chains c.self.inside.names _ c.self.invariant (ap (λ d. d.chains) c.self.view_is)
    c.requires c.in_ok-put.ensures.ok)
    ∙ ap (map key_of) (sym c.in-Err.ensures.err)
