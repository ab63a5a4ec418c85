use Rattle.std.proofs.Common.{ℕ, ◌*◌, refl}
use Rattle.fws_pf.specs.Drawn.{condition_count}
use Rattle.fws_pf_read.proofs.Counts.{counts_as}
use Rattle.fws_pf_read.proofs.drawn.draft_count.Goals as goal

pub returns : goal.returns
returns c =
    let f : ℕ = c.place_size-count.result in
    let p : ℕ = c.place_size.result in
    let s : ℕ = c.place_size-2.result in
    let q : ℕ = c.place_size-3.result in
    let t : ℕ = c.place_size-4.result in
    let u : ℕ = c.place_size-5.result in
    let a = c.times-count.ensures f p refl refl in
    let b = c.times-count-2.ensures (f * p) s (counts_as _ _ _ a) refl in
    let d = c.times-count-3.ensures (f * p * s) q (counts_as _ _ _ b) refl in
    let e = c.times-count-4.ensures (f * p * s * q) t (counts_as _ _ _ d) refl in
    let g = c.times-count-5.ensures (f * p * s * q * t) u (counts_as _ _ _ e) refl in
    let all = c.times.ensures (f * p * s * q * t * u) (condition_count c.args.d.now.options) (counts_as _ _ _ g) (counts_as _ _ _ c.count.ensures) in cc
