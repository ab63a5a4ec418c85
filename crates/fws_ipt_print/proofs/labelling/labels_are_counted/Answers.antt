use Rattle.fws_ipt_print.proofs.Numbering.{labels_counted}
use Rattle.fws_ipt_print.proofs.labelling.labels_are_counted.Goals as goal

pub returns : goal.returns
returns c = labels_counted
