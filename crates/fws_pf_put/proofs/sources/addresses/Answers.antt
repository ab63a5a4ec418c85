use Rattle.std.proofs.Common.{◌-◌, ◌^◌, arith, ap, ◌∙◌}
use Rattle.fws_pf_put.proofs.Sizes.{last_fits}
use Rattle.fws_pf_put.proofs.sources.addresses.Goals as goal

pub overflow_cast-hi : goal.overflow_cast-hi
overflow_cast-hi c =
    let fits = last_fits c.args.block.addr c.args.block.len c.pow-size.result (c.pow-size.ensures ∙ ap (λ n. 2 ^ (32 - n)) c.from.ensures) c.requires.short c.requires.fits c.requires.cleared in
    omega (arith, fits, c.from-2.ensures)
