use Rattle.std.proofs.Common.{◌≡◌, ◌+◌, ◌<◌, ◌∷◌, drop, get_or, length, sym, ◌∙◌, ap, arith}
use Rattle.std.proofs.lemmas.List.{drop_more}
use Rattle.fws_flat.specs.declared.code.Ins.{Ins}
use Rattle.fws_net.specs.Conditions.{holds}
use Rattle.fws_exec.proofs.Marking.{numbered_past, picked_past}
use Rattle.fws_exec.proofs.marks.past_same.Goals as goal

pub loop-past-preserved : goal.loop-past-preserved
loop-past-preserved c =
    let lt : c.loop-past.past < length c.args.code.now = omega arith in
    let item : Ins = get_or c.args.code.now c.loop-past.past c.index-code-past.result in
    let front : drop c.loop-past.past c.args.code.now ≡ item ∷ drop (c.loop-past.past + 1) c.args.code.now = drop_more c.args.code.now c.loop-past.past c.index-code-past.result lt in
    let same : item.cond ≡ c.args.cond.now = sym c.lits.ensures ∙ c.same_lits.ensures c.if-same_lits.true ∙ c.lits-in-loop-past.ensures in
    record {
      later = (let le = c.loop-past.invariant.later in omega arith);
      within = omega arith;
      picked = λ v place fails. c.loop-past.invariant.picked v place fails
          ∙ picked_past place v item (drop (c.loop-past.past + 1) c.args.code.now) (drop c.loop-past.past c.args.code.now) front (ap (λ ls. holds ls v) same ∙ fails);
      numbered = λ v fails. c.loop-past.invariant.numbered v fails
          ∙ numbered_past (c.loop-past.past + 1) v item (drop (c.loop-past.past + 1) c.args.code.now) (drop c.loop-past.past c.args.code.now) front (ap (λ ls. holds ls v) same ∙ fails);
    }
