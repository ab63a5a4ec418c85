use Rattle.std.proofs.Common.{ap, arith}
use Rattle.fws_iv.specs.Ivs.{has}
use Rattle.fws_iv.proofs.Parts.{last_start_below}
use Rattle.fws_iv.proofs.ivs.Ivs.extend.Goals as goal

pub join_last-requires-clause-begun : goal.join_last-requires-clause-begun
join_last-requires-clause-begun c =
    last_start_below 0 0 c.args.lo c.self.inside.parts c.self.invariant (omega arith)
    (λ v t. c.requires.behind v (let seen = ap (λ s. has s v) c.self.view_is in cc))
