use Rattle.std.proofs.Common.{◌∙◌, ap}
use Rattle.fws_dead.proofs.Telling.{number_put, number_passed}
use Rattle.fws_dead.proofs.unused.unmarked.Goals.{then-not-marks-n+in_ok-push, else-not-marks-n}
use Rattle.fws_dead.proofs.unused.unmarked.Goals as goal

pub loop-n-preserved : goal.loop-n-preserved
loop-n-preserved c =
    let marks = c.args.marks.now in
    let n = c.loop-n.n in
    let numbers = c.loop-n.numbers.items in
    elim c.if-not-marks-n.branch [
      | then-not-marks-n+in_ok-push w ↦ ap (λ v. v.items) w.numbers-is ∙ w.in_ok-push.ensures.items
          ∙ number_put marks n numbers c.loop-n.invariant w.if-not-marks-n.true
      | else-not-marks-n w ↦ ap (λ v. v.items) w.numbers-is ∙ number_passed marks n numbers c.loop-n.invariant w.if-not-marks-n.false
    ]
