use Rattle.std.proofs.Common.{sym, ◌∙◌}
use Rattle.fws_box.proofs.Same.{same_part, same_set}
use Rattle.fws_box.proofs.sets.is_same.Goals as goal

pub returns : goal.returns
returns c = λ e. same_set _ same_part c.args.a.now c.args.b.now (sym c.eq.ensures ∙ e)
