use Rattle.std.proofs.Common.{sym, ap}
use Rattle.fws_box.specs.Boxes.{sides_of}
use Rattle.fws_box.specs.Sides.{sides_have}
use Rattle.fws_net.specs.Conditions.{holds}
use Rattle.fws_tree.specs.Marks.{mark_at}
use Rattle.fws_exec.specs.Classes.{kind_of}
use Rattle.fws_exec.specs.Divided.{seen_at}
use Rattle.fws_exec.proofs.Marking.{never_label}
use Rattle.fws_exec.proofs.marks.put_use.Goals as goal

pub returns-then-fails : goal.returns-then-fails
returns-then-fails c part seen rest p w =
    ap (λ k. mark_at c.args.marks.now.items k p) (sym (never_label (sides_have (sides_of c.args.area.now) p) (holds c.args.cond.now (seen_at c.args.ground.now.site.now c.args.ground.now.state part c.args.progress.now p)) c.args.label rest
    (c.fails.ensures.never c.if-fails.true c.args.ground.now.site.now (kind_of c.args.ground.now.state p) part p)))
