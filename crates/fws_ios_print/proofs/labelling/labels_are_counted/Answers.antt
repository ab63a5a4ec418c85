use Rattle.fws_ios_print.proofs.Numbering.{labels_counted}
use Rattle.fws_ios_print.proofs.labelling.labels_are_counted.Goals as goal

pub returns : goal.returns
returns c = labels_counted
