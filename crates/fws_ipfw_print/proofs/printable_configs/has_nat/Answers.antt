use Rattle.std.proofs.Common.{sym}
use Rattle.fws_ipfw_print.proofs.Lookups.{found_there}
use Rattle.fws_ipfw_print.proofs.printable_configs.has_nat.Goals as goal

pub returns-in-Some : goal.returns-in-Some
returns-in-Some c = sym (found_there c.args.nats.now c.likely_place.result c.args.n c.in-Some.field-0.now c.in-Some.ensures.0 c.in-Some.ensures.1)
