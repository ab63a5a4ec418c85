use Rattle.std.proofs.Common.{◌≡◌, length, arith}
use Rattle.fws_ipfw_ifcl.specs.Translating.{by_trial}
use Rattle.fws_ipfw_ifcl.proofs.Putting.{by_trial_length}
use Rattle.fws_ipfw_ifcl.proofs.widths.translating_width.Goals as goal

pub returns : goal.returns
returns c =
    let tried : length (by_trial c.args.nat.now.redirects) ≡ length c.args.nat.now.redirects = by_trial_length c.args.nat.now.redirects in
    omega (arith, tried, c.in_ok-inward.ensures, c.in_ok-outward.ensures, c.len.ensures, c.len-2.ensures, c.in_ok-both.ensures, c.in_ok-all.ensures)
