use Rattle.std.proofs.Common.{All, ◌∙◌, subst}
use Rattle.fws_ipt_put.specs.Gathered.{HaveRewrites, TellsOfAll}
use Rattle.fws_ipt_put.proofs.Supplied.{are_marks}
use Rattle.fws_ipt_put.proofs.marking.marks_for.Goals as goal

pub returns : goal.returns
returns c =
    are_marks c.args.fresh.now.0 c.args.fresh.now.1 c.in_ok-rows.rows.items c.in_ok-rewrites.rewrites.keys c.in_ok-marks.marks.items
    (record { once = c.in_ok-rows.ensures.once; right = c.in_ok-rows.ensures.right })
    (subst (HaveRewrites c.in_ok-rewrites.rewrites.keys) c.as_slice.ensures.value c.in_ok-rewrites.ensures)
    c.in_ok-marks.ensures.rewrites
    (subst (λ rows. All (TellsOfAll rows) c.in_ok-marks.marks.items) c.as_slice-2.ensures.value c.in_ok-marks.ensures.tell)
