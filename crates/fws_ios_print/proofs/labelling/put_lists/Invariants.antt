use Rattle.std.proofs.Common.{◌≡◌, ◌++◌, drop}
use Rattle.std.specs.List.{flat_map}
use Rattle.fws_ios_print.specs.Labels.{list_labels}
use Rattle.fws_ios_print.proofs.labelling.put_lists.Given as goal

abbrev pub invariant-loop-l : goal.invariant-loop-l
invariant-loop-l l = l.labels.items ++ flat_map list_labels (drop l.l-index l.lists) ≡ l.fn.labels.items ++ flat_map list_labels l.lists
