use Rattle.std.proofs.Common.{ℕ, Option, List, MatchOption}
use Rattle.std.proofs.lemmas.Result.{IfOk-weaker}
use Rattle.fws_place.specs.Apart.{has_bit, place_in, AreAlikeBy, AreApart, AreTrueNear, NoneTrueNear}
use Rattle.fws_place.proofs.Apartness.{apart_found}
use Rattle.fws_place.proofs.apart.apart_by.Goals as goal

pub returns : goal.returns
returns g c =
    let tree = c.args.tree.now in
    let off = c.args.off.now in
    let keys = c.args.kept.now.keys in
    let first = c.in_ok-first.first in
    let second = c.in_ok-second.second in
    let P : Option (List ℕ × List ℕ) → Type 0 = λ found. MatchOption found (NoneTrueNear c.args.fields first.0 first.1 second.1) (λ pair. AreTrueNear c.args.fields first.0 first.1 second.1 pair.0 pair.1) in
    let Q : Option (List ℕ × List ℕ) → Type 0
    = λ found. MatchOption found (AreAlikeBy (λ x. has_bit c.args.size (place_in g.L.PartialEq.eq keys x)) c.args.fields tree.0 tree.1 off) (λ pair. AreApart c.args.fields tree.0 tree.1 off pair.0 pair.1) in
    IfOk-weaker c.true_together.result P Q
    (apart_found g.L.PartialEq.eq g.met.L.Eq.laws g.met.L.Leaf.exact off keys c.args.size c.args.fields tree.0 tree.1 first.1 second.1 c.in_ok-first.ensures.value c.in_ok-second.ensures.value
    first.0 c.in_ok-first.ensures.tops)
    c.true_together.ensures
