use Rattle.std.proofs.Common.{◌≡◌, ◌++◌}
use Rattle.fws_print.specs.Labels.{place_labels}
use Rattle.fws_print.proofs.labels.put_places.Given as goal

abbrev pub invariant-loop-at : goal.invariant-loop-at
invariant-loop-at l = l.labels.items ≡ l.fn.labels.items ++ place_labels l.front l.at
