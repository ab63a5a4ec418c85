use Rattle.std.proofs.Common.{◌≡◌, ◌-◌, List, MatchOption, length, sym, ◌∙◌, ap, subst, arith}
use Rattle.fws_box.specs.Sides.{whole_sides}
use Rattle.fws_iv.specs.declared.iv.Iv.{Iv}
use Rattle.fws_tree.specs.Plain.{Plain}
use Rattle.fws_tree.specs.Shared.{subtree_of, IsShared}
use Rattle.fws_dead.specs.Points.{bounds}
use Rattle.fws_dead.specs.Rows.{IsRow}
use Rattle.fws_dead.specs.Searched.{AreAlikeBelow, IsApartBelow}
use Rattle.fws_dead.proofs.Finding.{Apart, root_found}
use Rattle.fws_dead.proofs.Sides.{whole_row}
use Rattle.fws_dead.proofs.search.apart.Goals as goal

pub overflow_sub-root : goal.overflow_sub-root
overflow_sub-root c = let some = c.shared-shared.ensures.some in omega (arith, some)

pub apart_below-requires-clause-ordered : goal.apart_below-requires-clause-ordered
apart_below-requires-clause-ordered c = c.shared-shared.ensures.ordered

pub apart_below-requires-clause-inside : goal.apart_below-requires-clause-inside
apart_below-requires-clause-inside c = let some = c.shared-shared.ensures.some in omega (arith, some)

pub returns : goal.returns
returns c =
    let state = c.args.state in
    let tops = c.args.tree.now.0 in
    let tree = c.args.tree.now.1 in
    let nodes = c.shared-shared.result.nodes.now in
    let leaves = c.shared-shared.result.leaves.now in
    let shared = c.shared-shared.ensures in
    let whole : IsShared tops (subtree_of leaves nodes (length nodes - 1)) leaves nodes = subst (λ (t : Plain Apart). IsShared tops t leaves nodes) shared.last shared in
    let is-sides : c.in_ok-sides.sides ≡ whole_sides (bounds state tops)
    = c.in_ok-sides.ensures ∙ ap whole_sides (c.bounds.ensures ∙ ap (bounds state) c.tops.ensures.value) in
    let row : IsRow tops c.in_ok-sides.sides = subst (λ (s : List (List Iv)). IsRow tops s) (sym is-sides) (whole_row state tops c.requires) in
    let found = c.in_ok-found.ensures tops whole row in
    root_found state tops tree c.in_ok-found.found
    (subst (λ (t : Plain Apart). MatchOption c.in_ok-found.found (AreAlikeBelow state tops (whole_sides (bounds state tops)) t) (IsApartBelow state tops (whole_sides (bounds state tops)) t))
    (sym shared.last)
    (subst (λ (s : List (List Iv)). MatchOption c.in_ok-found.found (AreAlikeBelow state tops s (subtree_of leaves nodes (length nodes - 1))) (IsApartBelow state tops s (subtree_of leaves nodes (length nodes - 1)))) is-sides found))
