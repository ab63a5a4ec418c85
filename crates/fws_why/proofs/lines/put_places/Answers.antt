use Rattle.std.proofs.Common.{ℕ, List, ◌++◌, ◌∙◌, ap}
use Rattle.fws_why.proofs.Said.{lines_told}
use Rattle.fws_why.proofs.lines.put_places.Goals as goal

pub returns : goal.returns
returns c spots are = c.in_ok-put_each.ensures
    ∙ ap (λ (text : List ℕ). c.args.out.now ++ text) (lines_told c.args.labels.now c.args.numbers.now c.args.from.now spots c.args.used.now are)
