use Rattle.std.proofs.Common.{◌≡◌, ◌+◌, ◌++◌, ◌∷◌, ◌≤◌, [], false, ℕ, List, length, get_or, arith, ap, sym, ◌∙◌, subst}
use Rattle.fws_ios.specs.declared.config.IosGroup.{IosGroup}
use Rattle.fws_ios_put.specs.Layout.{groups_of}
use Rattle.fws_ios_put.proofs.Groups.{less_one, own_group, map_more}
use Rattle.fws_ios_put.proofs.lists.groups_of.Goals as goal

pub list_name-requires-clause-low : goal.list_name-requires-clause-low
list_name-requires-clause-low c =
    let lt = c.loop-i-test.true in
    subst (λ (k : ℕ). 1 ≤ get_or c.args.leaders.now k 0) (less_one c.loop-i.i) (c.requires.leaders (c.loop-i.i + 1) (omega arith) (omega arith)).0

pub list_name-requires-clause-high : goal.list_name-requires-clause-high
list_name-requires-clause-high c =
    let lt = c.loop-i-test.true in
    let high = subst (λ (k : ℕ). get_or c.args.leaders.now k 0 ≤ c.loop-i.i + 1) (less_one c.loop-i.i) (c.requires.leaders (c.loop-i.i + 1) (omega arith) (omega arith)).1 in
    omega arith

pub loop-i-preserved : goal.loop-i-preserved
loop-i-preserved c =
    let site = c.args.site.now in
    let leaders = c.args.leaders.now in
    let i = c.loop-i.i in
    let own : IosGroup = record { face = i + 1; outward = false; list = c.in_ok-list.list } in
    c.in_ok-put.ensures.ok ∙ ap (λ (l : List IosGroup). l ++ own ∷ []) c.loop-i.invariant
    ∙ ap (λ (g : IosGroup). groups_of site leaders i ++ g ∷ []) (own_group site leaders i c.in_ok-list.list c.in_ok-list.ensures) ∙ sym (map_more site leaders 1 i)

pub returns : goal.returns
returns c =
    let ge = c.loop-i-test.false in
    let le = c.loop-i.auto.i-end in
    let same : c.loop-i.i ≡ length c.args.leaders.now = omega arith in
    c.loop-i.invariant ∙ ap (groups_of c.args.site.now c.args.leaders.now) same
