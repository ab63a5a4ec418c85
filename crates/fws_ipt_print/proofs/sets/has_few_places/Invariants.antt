use Rattle.std.proofs.Common.{◌≡◌, ◌≤◌, ◌+◌, drop}
use Rattle.fws_ipt_print.specs.Printable.{all_places}
use Rattle.fws_ipt_print.proofs.sets.has_few_places.Given as goal

abbrev pub invariant-loop-iv : goal.invariant-loop-iv
invariant-loop-iv l = record { few : l.places ≤ 15; counted : l.places + all_places (drop l.iv-index l.parts) ≡ all_places l.parts }
