use Rattle.std.proofs.Common.{rules}
use Rattle.fws_top.proofs.placed.placed_code.Goals as goal

pub returns-in_err-flat-clause-refused : goal.returns-in_err-flat-clause-refused
returns-in_err-flat-clause-refused c = λ policy.
    let ends = c.in_err-flat.ensures.refused policy in
    search (rules, ends)
