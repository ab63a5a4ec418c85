use Rattle.std.proofs.Common.{ℕ, Option, List, MatchOption}
use Rattle.std.proofs.lemmas.Result.{IfOk-weaker}
use Rattle.fws_net.specs.Points.{tops_of}
use Rattle.fws_place.specs.Apart.{flags_alone, AreTrueNear, NoneTrueNear}
use Rattle.fws_place.specs.ByAck.{AreFalseNear, NoneFalseNear}
use Rattle.fws_place.proofs.ByAcks.{false_sought}
use Rattle.fws_place.proofs.by_ack.false_near.Goals as goal

pub returns : goal.returns
returns c =
    let tops : List ℕ = tops_of c.args.site.now in
    let t = c.args.tree.now in
    let first = c.args.first.now in
    let second = c.in_ok-second.second in
    let P : Option (List ℕ × List ℕ) → Type 0
    = λ found. MatchOption found (NoneTrueNear flags_alone first.0 first.1 second.1) (λ pair. AreTrueNear flags_alone first.0 first.1 second.1 pair.0 pair.1) in
    let Q : Option (List ℕ × List ℕ) → Type 0
    = λ found. MatchOption found (NoneFalseNear c.args.asked tops first.1 t.1) (λ pair. AreFalseNear c.args.asked tops first.1 t.1 pair.0 pair.1) in
    IfOk-weaker c.true_together.result P Q (false_sought c.args.asked tops first.0 first.1 t.1 second.1 c.requires.first c.in_ok-second.ensures.value) c.true_together.ensures
