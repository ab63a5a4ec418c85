use Rattle.std.proofs.Common.{List, sym, subst}
use Rattle.fws_iv.specs.declared.iv.Iv.{Iv}
use Rattle.fws_iv.specs.Ivs.{IsRegular}
use Rattle.fws_place.specs.Gathered.{HasNone, IsNext}
use Rattle.fws_place.proofs.NextValues.{next_is, none_next}
use Rattle.fws_place.proofs.values.next_value.Goals as goal

pub returns-then-value-top : goal.returns-then-value-top
returns-then-value-top c =
    let parts = c.parts-parts.result.now in
    let at = c.first_reaching-at.result in
    let none : Iv = record { lo = 0; hi = 0 } in
    let regular : IsRegular parts = subst (λ (s : List Iv). IsRegular s) (sym c.parts-parts.ensures.value) c.parts-parts.ensures.regular in
    subst (λ (s : List Iv). IsNext s c.args.from c.args.top c.max-value.result) c.parts-parts.ensures.value
    (next_is parts none at c.args.from c.args.top c.max-value.result regular c.if-at-parts.true (c.first_reaching-at.ensures.reaches none c.if-at-parts.true) c.first_reaching-at.ensures.members c.max-value.ensures c.if-value-top.true)

pub returns-else-value-top : goal.returns-else-value-top
returns-else-value-top c =
    let parts = c.parts-parts.result.now in
    let at = c.first_reaching-at.result in
    let none : Iv = record { lo = 0; hi = 0 } in
    let regular : IsRegular parts = subst (λ (s : List Iv). IsRegular s) (sym c.parts-parts.ensures.value) c.parts-parts.ensures.regular in
    subst (λ (s : List Iv). HasNone s c.args.from c.args.top) c.parts-parts.ensures.value
    (none_next parts none at c.args.from c.args.top c.max-value.result regular c.if-at-parts.true (c.first_reaching-at.ensures.reaches none c.if-at-parts.true) c.first_reaching-at.ensures.members c.max-value.ensures c.if-value-top.false)
