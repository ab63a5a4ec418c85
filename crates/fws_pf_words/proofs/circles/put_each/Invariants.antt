use Rattle.std.proofs.Common.{◌≡◌, ℕ, List}
use Rattle.fws_pf.specs.declared.tables.Table.{Table}
use Rattle.fws_pf_words.specs.Circles.{AreSetsOf, IsSetAt}
use Rattle.fws_pf_words.specs.Reached.{IsPlace}
use Rattle.fws_pf_words.proofs.circles.put_each.Given as goal

abbrev pub invariant-loop-place : goal.invariant-loop-place
invariant-loop-place l = (tables : List Table) → ((p : ℕ) → IsPlace l.places p → IsSetAt tables l.set p) → AreSetsOf tables l.fn.sets.items → AreSetsOf tables l.sets.items
