use Rattle.std.proofs.Common.{◌≡◌, ◌<◌, List, [], length, sym, subst, arith, ℕ, true, MatchOption}
use Rattle.std.proofs.lemmas.List.{get_or_default}
use Rattle.std.specs.Prelude.{slice_index_or}
use Rattle.fws_iv.specs.declared.iv.Iv.{Iv}
use Rattle.fws_iv.specs.Ivs.{has}
use Rattle.fws_dead.specs.Laid.{laid_over}
use Rattle.fws_dead.proofs.Writing.{moved_by}
use Rattle.fws_dead.proofs.row.moved.Goals as goal

pub returns-in-Some : goal.returns-in-Some
returns-in-Some c =
    let sides = c.args.sides.now in
    let k = c.args.field in
    let lt : k < length sides = omega arith in
    let read : List Iv = slice_index_or sides k c.index-sides-field.result in
    let side = get_or_default sides k c.index-sides-field.result [] lt in
    let a = c.args.a in
    let b = c.args.b in
    let found = subst (λ o. MatchOption o ((x : ℕ) → has read x ≡ true → laid_over a x ≡ laid_over b x) (λ x. (has read x ≡ true) × (laid_over a x ≡ laid_over b x → ⊥)))
    c.in-Some.is c.first_apart-found.ensures in
    moved_by sides read c.args.point.now c.point_with.result k c.in-Some.value a b side found c.point_with.ensures

pub returns-in-None : goal.returns-in-None
returns-in-None c =
    let sides = c.args.sides.now in
    let k = c.args.field in
    let lt : k < length sides = omega arith in
    let read : List Iv = slice_index_or sides k c.index-sides-field.result in
    let side = get_or_default sides k c.index-sides-field.result [] lt in
    let a = c.args.a in
    let b = c.args.b in
    let none = subst (λ o. MatchOption o ((x : ℕ) → has read x ≡ true → laid_over a x ≡ laid_over b x) (λ x. (has read x ≡ true) × (laid_over a x ≡ laid_over b x → ⊥)))
    c.in-None.is c.first_apart-found.ensures in
    λ x h. none x (subst (λ s. has s x ≡ true) (sym side) h)
