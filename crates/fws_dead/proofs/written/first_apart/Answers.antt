use Rattle.std.proofs.Common.{◌≡◌, ℕ, ◌≤◌, true, MatchOption, length, subst, sym, ◌∙◌, arith}
use Rattle.fws_iv.specs.declared.iv.Iv.{Iv}
use Rattle.fws_iv.specs.Ivs.{has, IsRegularFrom}
use Rattle.fws_dead.specs.Laid.{laid_over}
use Rattle.fws_dead.proofs.Sets.{some_members, found_in, none_in, whole_taken, none_taken}
use Rattle.fws_dead.proofs.written.first_apart.Goals as goal

abbrev nought : Iv
nought = record { lo = 0; hi = 0 }

pub loop-part-init : goal.loop-part-init
loop-part-init c = none_taken c.parts-part-items.result.now (laid_over c.args.a) (laid_over c.args.b)

pub apart_between-found-requires : goal.apart_between-found-requires
apart_between-found-requires c =
    some_members 0 c.parts-part-items.result.now c.loop-part.part-index nought
    (subst (λ s. IsRegularFrom 0 s) (sym c.parts-part-items.ensures.value) c.parts-part-items.ensures.regular) c.loop-part-test.true

pub returns-then-is_some : goal.returns-then-is_some
returns-then-is_some c =
    subst (λ s. MatchOption c.apart_between-found.result ((x : ℕ) → has s x ≡ true → laid_over c.args.a x ≡ laid_over c.args.b x) (λ x. (has s x ≡ true) × (laid_over c.args.a x ≡ laid_over c.args.b x → ⊥)))
    c.parts-part-items.ensures.value
    (found_in c.parts-part-items.result.now c.loop-part.part-index nought (laid_over c.args.a) (laid_over c.args.b) c.apart_between-found.result c.loop-part-test.true
    (sym c.is_some.ensures ∙ c.if-is_some.true) c.apart_between-found.ensures)

pub loop-part-preserved : goal.loop-part-preserved
loop-part-preserved c =
    none_in c.parts-part-items.result.now c.loop-part.part-index nought (laid_over c.args.a) (laid_over c.args.b) c.apart_between-found.result c.loop-part-test.true
    (sym c.is_some.ensures ∙ c.if-is_some.false) c.apart_between-found.ensures c.loop-part.invariant

pub returns : goal.returns
returns c x h =
    let end : length c.parts-part-items.result.now ≤ c.loop-part.part-index = omega arith in
    c.loop-part.invariant x (whole_taken c.parts-part-items.result.now c.loop-part.part-index x end (subst (λ s. has s x ≡ true) (sym c.parts-part-items.ensures.value) h))
