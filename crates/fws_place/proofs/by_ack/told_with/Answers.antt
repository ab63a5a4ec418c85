use Rattle.std.proofs.Common.{ℕ, Option, List, MatchOption}
use Rattle.std.proofs.lemmas.Result.{IfOk-weaker}
use Rattle.fws_net.specs.Points.{tops_of}
use Rattle.fws_place.specs.ByAck.{AreFalseNear, AreToldByMore, NoneFalseNear}
use Rattle.fws_place.proofs.ByAcks.{told_sought}
use Rattle.fws_place.proofs.by_ack.told_with.Goals as goal

pub returns : goal.returns
returns c =
    let tops : List ℕ = tops_of c.args.site.now in
    let t = c.args.tree.now in
    let first = c.in_ok-first.first in
    let P : Option (List ℕ × List ℕ) → Type 0
    = λ found. MatchOption found (NoneFalseNear c.args.asked tops first.1 t.1) (λ pair. AreFalseNear c.args.asked tops first.1 t.1 pair.0 pair.1) in
    let Q : Option (List ℕ × List ℕ) → Type 0
    = λ found. MatchOption found ((p q : List ℕ) → AreToldByMore c.args.asked tops t.1 p q → ⊥) (λ pair. AreToldByMore c.args.asked tops t.1 pair.0 pair.1) in
    IfOk-weaker c.false_near.result P Q (told_sought c.args.asked tops t.1 first.1 c.in_ok-first.ensures.value) c.false_near.ensures
