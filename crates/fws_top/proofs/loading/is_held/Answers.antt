use Rattle.std.proofs.Common.{Err, ap}
use Rattle.fws_top.proofs.loading.is_held.Goals as goal

pub returns-in-Err-Unfit : goal.returns-in-Err-Unfit
returns-in-Err-Unfit g c =
    let w = c.in-Err-Unfit in
    c.breaches_refute_fits.ensures g.L.Language.system c.args.site.now c.args.tables.now w.field-0-0 (w.ensures.unfit w.field-0-0 (ap Err w.field-0-is))
