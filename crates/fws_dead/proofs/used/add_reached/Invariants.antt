use Rattle.std.proofs.Common.{◌≡◌, ◌||◌, drop}
use Rattle.std.specs.HashSet.{contains}
use Rattle.fws_ifcl.specs.declared.diagram.Place.{Place}
use Rattle.fws_dead.specs.Used.{any_reached, key_eq, key_of}
use Rattle.fws_dead.proofs.used.add_reached.Given as goal

abbrev pub invariant-loop-n : goal.invariant-loop-n
invariant-loop-n l = (at : Place) → (contains key_eq l.used (key_of at) || any_reached (drop l.n l.reached) (drop l.n l.places) at)
    ≡ (contains key_eq l.initial.used (key_of at) || any_reached l.reached l.places at)
