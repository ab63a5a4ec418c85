use Rattle.std.proofs.lemmas.List.{length-map}
use Rattle.fws_ipfw_print.specs.Labels.{rule_label}
use Rattle.fws_ipfw_print.proofs.labelling.labels_are_counted.Goals as goal

pub returns : goal.returns
returns c f = length-map f.rules rule_label
