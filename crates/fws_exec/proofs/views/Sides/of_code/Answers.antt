use Rattle.std.proofs.Common.{◌<◌, length, take, ◌∙◌, arith}
use Rattle.fws_exec.specs.Views.{shows_all, shows_code}
use Rattle.fws_exec.proofs.Alike.{both_true, code_kept}
use Rattle.fws_exec.proofs.Listing.{all_more}
use Rattle.fws_exec.proofs.views.Sides.of_code.Goals as goal

pub loop-ins-preserved : goal.loop-ins-preserved
loop-ins-preserved c =
    let lt : c.loop-ins.ins-index < length c.args.code.now = omega arith in
    all_more (λ ins. shows_all c.with-sides.result ins.cond) c.args.code.now c.loop-ins.ins-index c.ins-item.result lt c.ins-item.is
    ∙ both_true (shows_code c.with-sides.result (take c.loop-ins.ins-index c.args.code.now)) (shows_all c.with-sides.result c.ins-item.result.cond) (code_kept c.loop-ins.sides c.with-sides.result (take c.loop-ins.ins-index c.args.code.now) c.with-sides.ensures.kept c.loop-ins.invariant) c.with-sides.ensures.shown
