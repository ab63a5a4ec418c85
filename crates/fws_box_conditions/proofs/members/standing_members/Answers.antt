use Rattle.std.proofs.Common.{◌<◌, ◌-◌, ◌^◌, ap, ◌∙◌, arith}
use Rattle.fws_box_conditions.proofs.Blocks.{last_low}
use Rattle.fws_box_conditions.proofs.members.standing_members.Goals as goal

pub overflow_add-end : goal.overflow_add-end
overflow_add-end c =
    let lt : c.args.end.addr < 2 ^ 32 = omega arith in
    let low = last_low c.args.end.addr c.args.end.len c.pow-size.result (c.pow-size.ensures ∙ ap (λ n. 2 ^ (32 - n)) c.from.ensures) c.args.end.len_high lt c.args.end.clear in
    omega (arith, low)

pub members_by_block-requires-clause-fits : goal.members_by_block-requires-clause-fits
members_by_block-requires-clause-fits c =
    let lt : c.args.end.addr < 2 ^ 32 = omega arith in
    last_low c.args.end.addr c.args.end.len c.pow-size.result (c.pow-size.ensures ∙ ap (λ n. 2 ^ (32 - n)) c.from.ensures) c.args.end.len_high lt c.args.end.clear
