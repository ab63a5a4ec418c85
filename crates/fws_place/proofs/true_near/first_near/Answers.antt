use Rattle.std.proofs.Common.{ℕ, Option, List, MatchOption}
use Rattle.std.proofs.lemmas.Result.{IfOk-weaker}
use Rattle.fws_place.specs.Apart.{IsFirstNear, NoneTrueNear}
use Rattle.fws_place.specs.Found.{IsTrueAt, IsTrueNowhere}
use Rattle.fws_place.proofs.NearPoints.{first_found}
use Rattle.fws_place.proofs.true_near.first_near.Goals as goal

pub returns : goal.returns
returns c =
    let fields : ℕ = c.args.fields in
    let first = c.args.first.now in
    let second = c.args.second.now in
    let both = c.in_ok-both.both in
    let P : Option (List ℕ) → Type 0 = λ found. MatchOption found (IsTrueNowhere both.0 both.1) (IsTrueAt both.0 both.1) in
    let Q : Option (List ℕ) → Type 0 = λ found. MatchOption found (NoneTrueNear fields first.0 first.1 second.1) (IsFirstNear fields first.0 first.1 second.1) in
    IfOk-weaker c.first_true.result P Q (first_found fields first.0 both.0 first.1 second.1 both.1 c.in_ok-both.ensures.tops c.in_ok-both.ensures.value) c.first_true.ensures
