use Rattle.std.proofs.Common.{◌≡◌, ◌<◌, ◌≤◌, true, false, List, [], length, get_or, arith, sym, ◌∙◌, ap}
use Rattle.fws_iv.specs.declared.iv.Iv.{Iv}
use Rattle.fws_iv.specs.Ivs.{has}
use Rattle.fws_place.proofs.RedirectRows.{few_passed, many_passed, none_passed, nowhere_passed, side_is, sides_gathered}
use Rattle.fws_place.proofs.few_redirects.passes.Goals as goal

pub returns-in-None : goal.returns-in-None
returns-in-None c = none_passed c.args.row.now c.args.met.now.keys (sym c.destination_of.ensures ∙ c.in-None.is) c.requires.few

pub returns-then-has : goal.returns-then-has
returns-then-has c =
    let row = c.args.row.now in
    let there : has (get_or row.sides 2 []) 0 ≡ true
    = ap (λ (s : List Iv). has s 0) (sym (side_is row c.requires.served 2 c.index-row.result (omega arith))) ∙ sym c.has.ensures ∙ c.if-has.true in
    nowhere_passed row c.args.met.now.keys c.args.met.now.keys c.in-Some.local (sym c.destination_of.ensures ∙ c.in-Some.is) c.requires.served there

pub returns-then-len-gt-MOST_REDIRECTS : goal.returns-then-len-gt-MOST_REDIRECTS
returns-then-len-gt-MOST_REDIRECTS c =
    let row = c.args.row.now in
    let old = c.args.met.now.keys in
    let new = c.gather.new.met.keys in
    let many : 4096 < length new = omega (arith, c.len.ensures.len, c.if-len-gt-MOST_REDIRECTS.true) in
    many_passed row old new c.in-Some.local (sym c.destination_of.ensures ∙ c.in-Some.is)
    (sides_gathered row c.requires.served old new c.in-Some.local c.index-row-in-Some.result c.index-row-in-Some-2.result c.index-row-in-Some-3.result c.in_ok-gather-in-Some.ensures) many

pub returns-else-len-gt-MOST_REDIRECTS : goal.returns-else-len-gt-MOST_REDIRECTS
returns-else-len-gt-MOST_REDIRECTS c =
    let row = c.args.row.now in
    let old = c.args.met.now.keys in
    let new = c.gather.new.met.keys in
    let few : length new ≤ 4096 = omega (arith, c.len.ensures.len, c.if-len-gt-MOST_REDIRECTS.false) in
    let absent : has (get_or row.sides 2 []) 0 ≡ false
    = ap (λ (s : List Iv). has s 0) (sym (side_is row c.requires.served 2 c.index-row.result (omega arith))) ∙ sym c.has.ensures ∙ c.if-has.false in
    few_passed row old new c.in-Some.local (sym c.destination_of.ensures ∙ c.in-Some.is) absent
    (sides_gathered row c.requires.served old new c.in-Some.local c.index-row-in-Some.result c.index-row-in-Some-2.result c.index-row-in-Some-3.result c.in_ok-gather-in-Some.ensures) few
