use Rattle.std.proofs.Common.{ℕ, Bool, true, false, Option, List, MatchOption}
use Rattle.std.proofs.lemmas.Option.{MatchOption-at_none}
use Rattle.std.proofs.lemmas.Result.{IfOk-weaker}
use Rattle.fws_net.specs.Points.{tops_of}
use Rattle.fws_place.specs.ByAck.{AreSoughtByMore, AreToldByMore}
use Rattle.fws_place.proofs.ByAcks.{told_either}
use Rattle.fws_place.proofs.by_ack.told_by_more.Goals as goal

pub returns : goal.returns
returns c =
    let tops : List ℕ = tops_of c.args.site.now in
    let t = c.args.tree.now in
    let None : Bool → Type 0 = λ asked. (p q : List ℕ) → AreToldByMore asked tops t.1 p q → ⊥ in
    let Told : Bool → List ℕ × List ℕ → Type 0 = λ asked pair. AreToldByMore asked tops t.1 pair.0 pair.1 in
    let none : None true = MatchOption-at_none (None true) (Told true) c.in_default.is c.in_ok-found.ensures in
    let P : Option (List ℕ × List ℕ) → Type 0 = λ found. MatchOption found (None false) (Told false) in
    let Q : Option (List ℕ × List ℕ) → Type 0 = AreSoughtByMore tops t.1 in
    IfOk-weaker c.told_with-2.result P Q (λ found h. told_either tops t.1 found none h) c.told_with-2.ensures
