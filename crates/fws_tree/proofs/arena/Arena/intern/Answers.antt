use Rattle.fws_tree.proofs.Numbered.{grown_arena, stored_tree}
use Rattle.fws_tree.proofs.arena.Arena.intern.Goals as goal
use Rattle.fws_tree.proofs.arena.Arena.intern.Goals.{in-Ok, in-Err}

pub returns-clause-arena : goal.returns-clause-arena
returns-clause-arena c = grown_arena _ _ _ c.args.node _ c.self.view_is c.requires.arena c.requires.below c.in_ok-place.ensures.grown c.place_of.ensures.different

pub returns-clause-tree : goal.returns-clause-tree
returns-clause-tree c = elim c.match-try_from.branch [
  | in-Ok w ↦ rw w.result-is (stored_tree _ _ _ c.args.node _ w.in-Ok.number _ c.self.view_is (returns-clause-arena c) c.requires.below
      c.in_ok-place.ensures.grown w.in-Ok.ensures.1 c.in_ok-place.ensures.place)
  | in-Err w ↦ rw w.result-is tt
]
