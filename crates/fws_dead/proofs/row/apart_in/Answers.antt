use Rattle.std.proofs.Common.{◌≡◌, ℕ, true, List, MatchOption, length, subst}
use Rattle.fws_box.specs.Sides.{sides_have}
use Rattle.fws_dead.proofs.Writing.{no_point, row_within}
use Rattle.fws_dead.proofs.row.apart_in.Goals as goal

pub returns-in-Some : goal.returns-in-Some
returns-in-Some c tops row =
    let sides = c.args.sides.now in
    let found = subst (λ o. MatchOption o ((p : List ℕ) → sides_have sides p ≡ true → ⊥) (λ q. (length q ≡ 12) × (sides_have sides q ≡ true))) c.in-Some.is c.least_point-least.ensures in
    c.outcomes_apart.ensures tops row (row_within tops sides c.in-Some.point row found.0 found.1) found.1

pub returns-in-None : goal.returns-in-None
returns-in-None c tops row =
    let sides = c.args.sides.now in
    let none = subst (λ o. MatchOption o ((p : List ℕ) → sides_have sides p ≡ true → ⊥) (λ q. (length q ≡ 12) × (sides_have sides q ≡ true))) c.in-None.is c.least_point-least.ensures in
    no_point c.args.state tops sides c.args.first c.args.second none
