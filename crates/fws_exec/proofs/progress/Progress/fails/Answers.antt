use Rattle.std.proofs.Common.{◌≡◌, ◌<◌, get_or, length, ◌∙◌, ap, arith}
use Rattle.fws_flat.specs.Walk.{sees}
use Rattle.fws_net.specs.Conditions.{lit_holds}
use Rattle.fws_exec.specs.Classes.{transit_of}
use Rattle.fws_exec.proofs.Listing.{all_item}
use Rattle.fws_exec.proofs.progress.Progress.fails.Goals as goal

pub returns-then-fails_lit-clause-never : goal.returns-then-fails_lit-clause-never
returns-then-fails_lit-clause-never c h site kind part p =
    let same : length c.lits-lit-items.result.now ≡ length c.args.cond.now = ap length c.lits-lit-items.ensures in
    let lt : c.loop-lit.lit-index < length c.args.cond.now = omega arith in
    all_item (lit_holds (sees site kind part (transit_of c.args.self.now p))) c.args.cond.now c.loop-lit.lit-index c.lit-item.result lt (c.lit-item.is ∙ ap (λ ls. get_or ls c.loop-lit.lit-index c.lit-item.result) c.lits-lit-items.ensures)
    (c.fails_lit.ensures.never c.if-fails_lit.true site kind part p)
