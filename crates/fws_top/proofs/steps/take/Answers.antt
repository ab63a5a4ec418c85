use Rattle.std.proofs.Common.{Err, ap}
use Rattle.fws_top.proofs.Chosen.{file_refused}
use Rattle.fws_top.proofs.steps.take.Goals as goal

pub returns-in_ok-refused-in-Err-TooLong-clause-stopped : goal.returns-in_ok-refused-in-Err-TooLong-clause-stopped
returns-in_ok-refused-in-Err-TooLong-clause-stopped g c =
    let long = c.in-Err-TooLong in
    file_refused c.args.name.now (g.S.Shelf.told c.args.shelf.now) (g.S.Shelf.faults c.args.shelf.now) (g.S.Shelf.faults c.read.new.self) _ _
    (λ held e. long.ensures.over_told long.field-0-0 held (ap Err long.field-0-is) e)
    (long.ensures.counts (λ failed. let is = long.field-0-is in absurd (cc)))
    c.in_ok-refused-in-Err-TooLong.ensures.0 c.in_ok-refused-in-Err-TooLong.ensures.1
