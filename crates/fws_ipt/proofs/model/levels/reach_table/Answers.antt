use Rattle.std.proofs.Common.{◌≡◌, ◌≤◌, Some, length, map, arith, ◌∙◌, ap}
use Rattle.std.specs.Cmp.{booleans_Decides}
use Rattle.std.proofs.lemmas.Slice.Eq.{slice_eq-Decides}
use Rattle.fws_ipt.specs.Levels.{flag_behind}
use Rattle.fws_ipt.proofs.Levels.{reach_settled}
use Rattle.fws_ipt.proofs.model.levels.reach_table.Goals as goal

pub returns-then-eq : goal.returns-then-eq
returns-then-eq c =
    let level = c.loop-n.level.items in
    let chains = c.args.chains.now in
    let next : c.as_slice-in-loop-n.result.now ≡ c.as_slice-in-loop-n-2.result.now = (slice_eq-Decides booleans_Decides _ _ _ c.eq.ensures).0 c.if-eq.true in
    let made : c.in_ok-next.next.items ≡ map (flag_behind (Some c.args.to) level) chains =
    c.in_ok-next.ensures ∙ ap (λ t. map (flag_behind (Some c.args.to) t) chains) c.as_slice.ensures.value in
    let within : c.loop-n._n ≤ length chains = omega arith in
    let same : map (flag_behind (Some c.args.to) level) chains ≡ level = cc in
    reach_settled chains c.args.to c.loop-n._n (length chains) level within same c.loop-n.invariant
