use Rattle.std.proofs.Common.{sym, ◌∙◌}
use Rattle.fws_place.proofs.SameSets.{part_exact, set_exact}
use Rattle.fws_place.proofs.few_redirects.same_set.Goals as goal

pub returns : goal.returns
returns c = λ e. sym c.parts.ensures.value ∙ set_exact _ part_exact c.parts.result.now c.parts-2.result.now (sym c.eq.ensures ∙ e) ∙ c.parts-2.ensures.value
