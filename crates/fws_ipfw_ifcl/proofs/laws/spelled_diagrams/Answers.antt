use Rattle.std.proofs.Common.{◌&&◌}
use Rattle.std.proofs.lemmas.Bool.{and_parts}
use Rattle.std.specs.List.{list_all}
use Rattle.fws_ipfw.specs.Soundness.{rule_fits, nat_fits, are_apart}
use Rattle.fws_ipfw_ifcl.proofs.laws.spelled_diagrams.Goals as goal

pub returns : goal.returns
returns c site text f spelled =
    let fits = c.spelled_fits.ensures site text f spelled in
    let parts = and_parts (list_all (rule_fits f.nats) f.rules && list_all nat_fits f.nats) (are_apart f.nats) fits.0 in
    let inner = and_parts (list_all (rule_fits f.nats) f.rules) (list_all nat_fits f.nats) parts.0 in
    record { ordered = fits.1; apart = parts.1; fitting = inner.1 }
