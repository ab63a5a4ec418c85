use Rattle.std.proofs.Common.{◌+◌, ◌<◌, ◌||◌, length, drop, ap, ◌∙◌, arith}
use Rattle.std.specs.HashSet.{contains}
use Rattle.fws_dead.specs.Used.{any_reached, key_eq, key_of}
use Rattle.fws_dead.proofs.Standing.{step_reached, step_passed}
use Rattle.fws_dead.proofs.used.add_reached.Goals.{then-reached-n+in_ok-add_place, else-reached-n}
use Rattle.fws_dead.proofs.used.add_reached.Goals as goal

pub loop-n-preserved : goal.loop-n-preserved
loop-n-preserved c =
    let answers = c.args.reached.now in
    let places = c.args.places.now in
    let n = c.loop-n.n in
    let low : n < length places = omega arith in
    let lt : n < length answers = omega arith in
    elim c.if-reached-n.branch [
      | then-reached-n+in_ok-add_place w ↦ λ at.
          ap (λ s. contains key_eq s (key_of at) || any_reached (drop (n + 1) answers) (drop (n + 1) places) at) w.used-is
          ∙ step_reached answers places n at (contains key_eq c.loop-n.used (key_of at)) (contains key_eq c.args.used.now (key_of at) || any_reached answers places at) lt low
          (c.loop-n.invariant at) (contains key_eq w.add_place.new.used (key_of at)) w.if-reached-n.true (w.in_ok-add_place.ensures at)
      | else-reached-n w ↦ λ at.
          ap (λ s. contains key_eq s (key_of at) || any_reached (drop (n + 1) answers) (drop (n + 1) places) at) w.used-is
          ∙ step_passed answers places n at (contains key_eq c.loop-n.used (key_of at)) (contains key_eq c.args.used.now (key_of at) || any_reached answers places at) lt low
          (c.loop-n.invariant at) w.if-reached-n.false
    ]
