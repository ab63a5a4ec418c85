use Rattle.std.proofs.Common.{drop, sym, ◌∙◌}
use Rattle.fws_pf.specs.FileText.{with_front}
use Rattle.fws_pf_words.proofs.Naming.{stays}
use Rattle.fws_pf_words.proofs.defining.take_front.Goals as goal

pub returns-then-is_over : goal.returns-then-is_over
returns-then-is_over c = λ rest.
    sym (c.loop-w.invariant rest) ∙ stays c.loop-w.d (with_front (drop c.loop-w.w-index c.args.words.now) rest) (sym c.is_over.ensures ∙ c.if-is_over.true)
