use Rattle.std.proofs.Common.{◌≡◌, ◌<◌, get_or, length, take, sym, ◌∙◌, ap, subst, arith}
use Rattle.std.specs.List.{list_all}
use Rattle.std.proofs.lemmas.List.{take_all}
use Rattle.fws_net.specs.Conditions.{lit_holds}
use Rattle.fws_exec.specs.Looks.{Tells}
use Rattle.fws_exec.proofs.Listing.{all_item, all_more}
use Rattle.fws_exec.proofs.look.Look.holds.Goals as goal

pub loop-lit-preserved : goal.loop-lit-preserved
loop-lit-preserved c v s t =
    let same : length c.lits-lit-items.result.now ≡ length c.args.cond.now = ap length c.lits-lit-items.ensures in
    let lt : c.loop-lit.lit-index < length c.args.cond.now = omega arith in
    subst (λ b. Tells c.beside-all.result b)
    (sym (all_more (lit_holds v) c.args.cond.now c.loop-lit.lit-index c.lit-item.result lt (c.lit-item.is ∙ ap (λ ls. get_or ls c.loop-lit.lit-index c.lit-item.result) c.lits-lit-items.ensures)))
    (c.beside-all.ensures (list_all (lit_holds v) (take c.loop-lit.lit-index c.args.cond.now)) (lit_holds v c.lit-item.result) (c.lit_holds-own.ensures v s t) (c.loop-lit.invariant v s t))

pub returns-then-is_failed : goal.returns-then-is_failed
returns-then-is_failed c v s t =
    let same : length c.lits-lit-items.result.now ≡ length c.args.cond.now = ap length c.lits-lit-items.ensures in
    let lt : c.loop-lit.lit-index < length c.args.cond.now = omega arith in
    all_item (lit_holds v) c.args.cond.now c.loop-lit.lit-index c.lit-item.result lt (c.lit-item.is ∙ ap (λ ls. get_or ls c.loop-lit.lit-index c.lit-item.result) c.lits-lit-items.ensures)
    (c.is_failed.ensures c.if-is_failed.true (lit_holds v c.lit-item.result) (c.lit_holds-own.ensures v s t))

pub returns : goal.returns
returns c v s t =
    let same : length c.lits-lit-items.result.now ≡ length c.args.cond.now = ap length c.lits-lit-items.ensures in
    subst (λ xs. Tells c.loop-lit.all (list_all (lit_holds v) xs)) (take_all c.loop-lit.lit-index c.args.cond.now (omega arith)) (c.loop-lit.invariant v s t)
