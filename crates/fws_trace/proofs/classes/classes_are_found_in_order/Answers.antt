use Rattle.fws_trace.proofs.Keys.{alike, class_behind}
use Rattle.fws_trace.proofs.classes.classes_are_found_in_order.Goals as goal

pub returns-clause-alike : goal.returns-clause-alike
returns-clause-alike c = alike

pub returns-clause-behind : goal.returns-clause-behind
returns-clause-behind c = class_behind
