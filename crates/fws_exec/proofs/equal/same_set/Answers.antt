use Rattle.std.proofs.Common.{sym, ◌∙◌}
use Rattle.std.proofs.lemmas.Slice.Eq.{slice_eq-Decides}
use Rattle.fws_exec.proofs.Sameness.{iv_decides}
use Rattle.fws_exec.proofs.equal.same_set.Goals as goal

pub returns : goal.returns
returns c same = sym c.parts.ensures.value ∙ (slice_eq-Decides iv_decides _ _ _ c.eq.ensures).0 same ∙ c.parts-2.ensures.value
