use Rattle.std.proofs.Common.{ℕ, ◌+◌, ◌-◌, ◌^◌, ◌<◌, arith, ap, sym, subst, ◌∙◌}
use Rattle.fws_net.proofs.Halves.{second_fits}
use Rattle.fws_net.proofs.route_sets.second_half.Goals as goal

pub overflow_add-result : goal.overflow_add-result
overflow_add-result c =
    let P : ℕ → Type 0 = λ n. c.args.block.addr + n < 2 ^ 32 in
    let fits : c.args.block.addr + c.pow.result < 2 ^ 32 =
    subst P (sym (c.pow.ensures ∙ ap (λ n. 2 ^ (31 - n)) c.from.ensures)) (second_fits c.args.block c.requires.short c.requires.block) in
    omega arith
