use Rattle.std.proofs.Common.{sym, ◌∙◌}
use Rattle.fws_tree.specs.LeafEquality.{option_exact}
use Rattle.fws_tree.specs.OutcomeEquality.{end_exact}
use Rattle.fws_place.proofs.few_redirects.same_destination.Goals as goal

pub returns : goal.returns
returns c = λ e. option_exact _ end_exact c.args.a.now c.args.b.now (sym c.eq.ensures ∙ e)
