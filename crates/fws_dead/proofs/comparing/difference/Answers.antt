use Rattle.std.proofs.Common.{List, ℕ, MatchOption, sym, subst}
use Rattle.fws_dead.specs.Points.{AreTops}
use Rattle.fws_dead.specs.Searched.{AreAlikeWithin, IsApartWithin}
use Rattle.fws_dead.proofs.Comparisons.{values_found}
use Rattle.fws_dead.proofs.comparing.difference.Goals as goal

pub unequal_leaves-requires : goal.unequal_leaves-requires
unequal_leaves-requires c = c.requires.same_tops

pub apart-requires : goal.apart-requires
apart-requires c = subst (λ (l : List ℕ). AreTops l) (sym c.in_ok-tree.ensures.tops) c.requires.tops

pub returns : goal.returns
returns c =
    let state = c.args.state in
    let tree = c.in_ok-tree.tree in
    values_found state c.args.first.now.0 c.args.first.now.1 c.args.second.now.1 tree.1 c.in_ok-found.found c.in_ok-tree.ensures.value
    (subst (λ (l : List ℕ). MatchOption c.in_ok-found.found (AreAlikeWithin state l tree.1) (IsApartWithin state l tree.1)) c.in_ok-tree.ensures.tops c.in_ok-found.ensures)
