use Rattle.fws_exec.specs.declared.spot.Spot.TheVariants.{At}
use Rattle.fws_exec.specs.Sheets.{among, AllAt}
use Rattle.fws_exec.proofs.roll.Roll.standing.Given as goal

abbrev pub invariant-loop-number : goal.invariant-loop-number
invariant-loop-number l = record {
  here : AllAt (At l.place) l.self.classes.items (among l.numbers.items);
}
