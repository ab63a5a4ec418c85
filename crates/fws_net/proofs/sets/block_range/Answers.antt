use Rattle.std.proofs.Common.{◌+◌, ◌-◌, ◌%◌, ◌^◌, ◌<◌, arith, ap, ◌∙◌}
use Rattle.fws_net.proofs.Nets.{block_ends_within}
use Rattle.fws_net.proofs.sets.block_range.Goals as goal

pub overflow_cast-result : goal.overflow_cast-result
overflow_cast-result c =
    let size = c.block_size-size.result in
    let within : c.from-2.result + (size - 1) < 2 ^ 32 =
    block_ends_within c.args.len c.args.addr size c.from-2.result (omega arith) c.block_size-size.ensures
    (c.from-2.ensures ∙ ap (λ a. c.args.addr - a % size) c.from.ensures) in
    omega arith
