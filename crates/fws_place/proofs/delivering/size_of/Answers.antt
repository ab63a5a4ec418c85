use Rattle.std.proofs.Common.{ℕ, ◌+◌, ◌≤◌, ◌<◌, ◌^◌, sym, subst}
use Rattle.fws_place.proofs.LocalWritten.{end_fits}
use Rattle.fws_place.proofs.delivering.size_of.Goals as goal

pub returns-clause-fits : goal.returns-clause-fits
returns-clause-fits c =
    let addr : ℕ = c.args.addr in
    let low : addr < 2 ^ 32 = c.ranges.addr.fits in
    let Room : ℕ → Type 0 = λ size. addr + size ≤ 2 ^ 32 in
    subst Room (sym c.pow.ensures) (end_fits addr c.args.len c.requires.low low c.requires.clear)
