use Rattle.std.proofs.lemmas.Option.{slice_get_within}
use Rattle.fws_tree.proofs.Cells.{stored, stored_held}
use Rattle.fws_tree.proofs.store.Store.intern.Goals as goal
use Rattle.fws_tree.proofs.store.Store.intern.Goals.{in-Ok, in-Err}
use Rattle.std.proofs.Common.{arith, ◌≡◌, ℕ, List, Some, slice_get, ◌<◌, length}
use Rattle.fws_tree.specs.declared.store.Cell.{Cell}

at_place : (cs : List Cell) (i place : ℕ) (c : Cell) → slice_get cs place ≡ Some c → i ≡ place → i < length cs
at_place cs i place c is e = let l = slice_get_within cs place c is in omega arith

pub returns-clause-ordered : goal.returns-clause-ordered
returns-clause-ordered c = (stored _ _ _ c.args.cell _ c.self.view_is c.requires.ordered c.requires.below c.in_ok-place.ensures.grown).ordered

pub returns-clause-extends : goal.returns-clause-extends
returns-clause-extends c = (stored _ _ _ c.args.cell _ c.self.view_is c.requires.ordered c.requires.below c.in_ok-place.ensures.grown).extends

pub returns-clause-inside : goal.returns-clause-inside
returns-clause-inside c = elim c.match-try_from.branch [
  | in-Ok w ↦ rw w.result-is (at_place _ _ _ _ c.in_ok-place.ensures.place w.in-Ok.ensures.1)
  | in-Err w ↦ rw w.result-is tt
]

pub returns-clause-held : goal.returns-clause-held
returns-clause-held c = elim c.match-try_from.branch [
  | in-Ok w ↦ rw w.result-is (λ p. stored_held _ _ c.args.cell w.in-Ok.number _ p
      (stored _ _ _ c.args.cell _ c.self.view_is c.requires.ordered c.requires.below c.in_ok-place.ensures.grown) w.in-Ok.ensures.1 c.in_ok-place.ensures.place)
  | in-Err w ↦ rw w.result-is tt
]
