use Rattle.std.proofs.Common.{◌+◌, true, slice_set, ap, ◌∙◌}
use Rattle.fws_ipt.specs.declared.config.IptTable.TheVariants.{Filter}
use Rattle.fws_ipt.specs.declared.hook.Hook.TheVariants.{Forward, Input, Output}
use Rattle.fws_ipt_put.specs.Builtin.{builtin}
use Rattle.fws_ipt_put.proofs.drafting.filled.Goals as goal

pub returns : goal.returns
returns c =
    let at = c.args.draft.filter in
    record {
      arriving = c.in_ok-rules.rules.arriving;
      sending = c.in_ok-rules.rules.sending;
      delivering = c.in_ok-rules.rules.delivering;
      forwarding = c.in_ok-rules.rules.forwarding;
      sent = c.in_ok-rules.rules.sent;
      rules = c.in_ok-rules.ensures;
      are = c.in_ok-all.ensures
          ∙ ap (λ l. slice_set (slice_set (slice_set l at (builtin Filter Input true c.in_ok-rules.rules.delivering)) (at + 1) (builtin Filter Forward true c.in_ok-rules.rules.forwarding))
          (at + 2) (builtin Filter Output true c.in_ok-rules.rules.sent)) c.in_ok-begun.ensures;
    }
