use Rattle.std.proofs.Common.{◌∙◌}
use Rattle.fws_ipfw_print.proofs.Lookups.{redirects_there}
use Rattle.fws_ipfw_print.proofs.printable_configs.redirects_at.Goals as goal

pub returns-in-Some : goal.returns-in-Some
returns-in-Some c =
    c.len.ensures ∙ redirects_there c.args.nats.now c.likely_place.result c.args.n c.in-Some.nat.now c.requires c.in-Some.ensures.0 c.in-Some.ensures.1
