use Rattle.std.proofs.Common.{ℕ, false, Option, List, MatchOption}
use Rattle.std.proofs.lemmas.Result.{IfOk-weaker}
use Rattle.fws_net.specs.Points.{tops_of}
use Rattle.fws_place.specs.ByAck.{AreAheadAt, AreFalseNear, NoneFalseNear}
use Rattle.fws_place.proofs.ByAcks.{ahead_sought}
use Rattle.fws_place.proofs.ack_ahead.ahead_at.Goals as goal

pub returns : goal.returns
returns c =
    let site = c.args.site.now in
    let tops : List ℕ = tops_of site in
    let sometimes = c.args.sometimes.now in
    let new = c.args.new.now in
    let first = c.in_ok-first.first in
    let P : Option (List ℕ × List ℕ) → Type 0
    = λ found. MatchOption found (NoneFalseNear false tops first.1 sometimes.1) (λ pair. AreFalseNear false tops first.1 sometimes.1 pair.0 pair.1) in
    let Q : Option (List ℕ × List ℕ) → Type 0
    = λ found. MatchOption found ((p q : List ℕ) → AreAheadAt site sometimes.1 new.1 p q → ⊥) (λ pair. AreAheadAt site sometimes.1 new.1 pair.0 pair.1) in
    IfOk-weaker c.false_near.result P Q (ahead_sought site sometimes.1 new.1 first.1 c.in_ok-first.ensures.value) c.false_near.ensures
