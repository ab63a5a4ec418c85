use Rattle.std.proofs.Common.{◌≡◌, ◌<◌, Option, Some, None, MatchOption, length, sym, ◌∙◌, refl, subst, arith}
use Rattle.std.proofs.lemmas.Option.{same_Some, slice_get_read, slice_get_past}
use Rattle.fws_net.specs.declared.outcome.Outcome.{Outcome}
use Rattle.fws_dead.specs.Searched.{AreAlikeFor, IsApartFor}
use Rattle.fws_dead.proofs.search.apart_at.Goals as goal

pub returns-in-Some : goal.returns-in-Some
returns-in-Some c tops leaf row there =
    let s = c.args.state in
    let sides = c.args.sides.now in
    let found = c.in-Some.ensures.lookup in
    let lt : c.args.place < length c.args.leaves.now = omega (arith, found) in
    let here = slice_get_read c.args.leaves.now (length c.args.leaves.now) c.args.place c.in-Some.leaf.now refl lt found.1 in
    let same : c.in-Some.leaf.now ≡ leaf = same_Some c.in-Some.leaf.now leaf (sym here ∙ there) in
    subst (λ (o : Option (Outcome × Outcome)). MatchOption c.apart_for.result (AreAlikeFor s tops sides o) (IsApartFor s tops sides o)) same (c.apart_for.ensures tops row)

pub returns-in-None : goal.returns-in-None
returns-in-None c tops leaf row there =
    let found = c.in-None.ensures.lookup in
    let past = slice_get_past c.args.leaves.now c.args.place found.3 in
    let bad : None ≡ Some leaf = sym past ∙ there in
    absurd (cc)
